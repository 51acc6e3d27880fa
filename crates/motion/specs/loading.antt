-- What a load leaves in the projection: document 01, port order 6, and the standard's 7.9.2.
pub mod Used
pub mod Fields
pub mod Load
