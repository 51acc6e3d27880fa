-- A choice by a test. A definition that goes by cases is nested `pick`s, so it reads like a table, and a path through code is one `rw`.
use Rattle.std.specs.Prelude.{Bool, true, false}

abbrev pub pick : {A : Type 0} → Bool → A → A → A
pick true a b = a
pick false a b = b
