-- These definitions follow the code: what the structs that gather vectors stand for.
use Rattle.std.specs.Prelude.{List, [], ◌∷◌}
use Rattle.vector.specs.declared.mv.Mv.{Mv}
use Rattle.search.specs.declared.extra.pool.Two.{Two}
use Rattle.search.specs.declared.extra.pool.Two.TheVariants.{Empty, One}
use Rattle.search.specs.declared.extra.pool.Two.TheVariants as two
use Rattle.search.specs.declared.extra.pool.Pool.{Pool}
use Rattle.search.specs.declared.extra.pool.Pools.{Pools}
use Rattle.search.specs.extra.Pool.{Gathered, Both}

-- what the code's records stand for
abbrev pub held_in : Two → List Mv
held_in Empty = []
held_in (One a) = a ∷ []
held_in (two.Both a b) = a ∷ b ∷ []

unfoldable pub pool_of : Pool → Gathered
pool_of p = record { same = held_in p.same; other = held_in p.other }

unfoldable pub pools_of : Pools → Both
pools_of p = record { first = pool_of p.first; second = pool_of p.second }
