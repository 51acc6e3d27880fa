-- Demand 3: jobs that were admitted together, stepped in any order.
pub mod Desk
pub mod Demand
pub mod steps
