-- `layout::tile_bytes::put_table` meets its contract.
use native.Mathlib.Omega.{arith}
use Rattle.rows.proofs.Tabled.{off-fits}
use Rattle.layout.proofs.Entries.{ends, odd-table, even-table}
use Rattle.layout.proofs.tile_bytes.put_table.Goals as goal

pub overflow_add-off : goal.overflow_add-off
overflow_add-off c = let s = c in let o = off-fits s.args.sbsz s.args.odd s.requires.1 in let e = c.offset-off.ensures in record { fits = omega arith }

pub put_rows-requires : goal.put_rows-requires
put_rows-requires c = let s = c in let o = off-fits s.args.sbsz s.args.odd s.requires.1 in let e = c.offset-off.ensures in omega arith

pub overflow_add-off-then-odd : goal.overflow_add-off-then-odd
overflow_add-off-then-odd c = let s = c in let o = off-fits s.args.sbsz s.args.odd s.requires.1 in let e = c.offset-off.ensures in record { fits = omega arith }

pub put_three-requires : goal.put_three-requires
put_three-requires c = let s = c in let o = off-fits s.args.sbsz s.args.odd s.requires.1 in let e = c.offset-off.ensures in omega arith

pub overflow_sub-sbsz : goal.overflow_sub-sbsz
overflow_sub-sbsz c = let s = c in let m = ends s.args.sbsz s.args.stride s.requires.1 in m.five

pub overflow_mul-sbsz : goal.overflow_mul-sbsz
overflow_mul-sbsz c = let s = c in let m = ends s.args.sbsz s.args.stride s.requires.1 in record { fits = omega (arith, m.last, m.fits) }

pub overflow_add-first : goal.overflow_add-first
overflow_add-first c = let s = c in let m = ends s.args.sbsz s.args.stride s.requires.1 in record { fits = omega (arith, m.last, m.fits) }

pub put_three-requires-then-odd : goal.put_three-requires-then-odd
put_three-requires-then-odd c = let s = c in let m = ends s.args.sbsz s.args.stride s.requires.1 in let o = off-fits s.args.sbsz s.args.odd s.requires.1 in let e = c.offset-off.ensures in omega (arith, m.last, m.fits)

pub returns-then-odd : goal.returns-then-odd
returns-then-odd c = let s = c in odd-table s.args.s.now s.args.sbsz s.args.first s.args.stride s.requires.1 s.args.odd c.if-odd.true c.offset-off.ensures c.put_absent.ensures c.put_rows.ensures c.put_three.ensures c.put_three-then-odd.ensures

pub put_three-requires-2 : goal.put_three-requires-2
put_three-requires-2 c = let s = c in let o = off-fits s.args.sbsz s.args.odd s.requires.1 in let e = c.offset-off.ensures in omega arith

pub returns : goal.returns
returns c = let s = c in even-table s.args.s.now s.args.sbsz s.args.first s.args.stride s.requires.1 s.args.odd c.if-odd.false c.offset-off.ensures c.put_absent.ensures c.put_rows.ensures c.put_three-2.ensures
