-- Tests of a clause from the facts of a branch: `search tests` at a return of a function that goes by tests on numbers.
use borrow.Author.Tests.{le-ltb, lt-ltb, le-leb, lt-leb, eq-eqb, ne_eqb}
use lib.Dec.{lit≤, lit<}

pub ruleset tests = (le-ltb, lt-ltb, le-leb, lt-leb, eq-eqb, ne_eqb, lit≤, lit<)
