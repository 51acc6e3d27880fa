-- `frame::mfmv::mfmv_of` meets its contract.
use native.Mathlib.Omega.{arith}
use mathlib.Core.Path.{◌≡◌, sym, ap, ◌∙◌}
use Prim.Native.Nat.{ℕ}
use lib.ListN.{length}
use mir.Syntax.{w16}
use Rattle.ground.proofs.Bits.{kept}
use Rattle.vector.specs.Hint.{distance}
use Rattle.frame.specs.hints.Description.{held_at}
use Rattle.frame.specs.hints.Distances.{from_current}
use Rattle.frame.specs.Mfmv.{far, towards, ref_to_ref, mfmv_of}
use Rattle.frame.proofs.hints.Described.{hints, hint-fits, lent-hint}
use borrow.Author.Rules.{rules}
use Rattle.frame.proofs.mfmv.mfmv_of.Goals as goal
use Rattle.frame.proofs.mfmv.mfmv_of.Goals.{Start}

long : (s : Start) → (length s.args.d.hints ≡ 7) × (length s.args.d.hints_by_ref ≡ 49)
long s = (search rules, search rules)

pub get_poc_diff-there-requires : goal.get_poc_diff-there-requires
get_poc_diff-there-requires c = let s = (goal.at.get_poc_diff-there-requires c).Start in let d = s.args.d in let h = lent-hint d s.args.reference s.requires.0 c.from-r.ensures c.from-here.ensures in let a = hints d s.requires.2 in (a.bits, hint-fits d s.args.reference s.requires.2 h (omega (arith, (long (goal.at.get_poc_diff-there-requires c).Start).0)), a.current)

pub returns-then-is_far : goal.returns-then-is_far
unfolding mfmv_of from_current
returns-then-is_far c = let s = c in let d = s.args.d in let h = lent-hint d s.args.reference s.requires.0 c.from-r.ensures c.from-here.ensures in let e = kept w16 c.get_poc_diff-there.type_inv (c.get_poc_diff-there.ensures ∙ ap (λ (n : ℕ). distance d.hint_bits n d.current_hint) h) in let t = c.toward_current-ref2cur.ensures ∙ ap (λ z. towards z s.args.reference) e in rw (t, sym (ap far e) ∙ sym c.is_far.ensures ∙ c.if-is_far.true)

pub refs2ref-ref2ref-requires : goal.refs2ref-ref2ref-requires
refs2ref-ref2ref-requires c = let s = (goal.at.refs2ref-ref2ref-requires c).Start in let d = s.args.d in let h = lent-hint d s.args.reference s.requires.0 c.from-r.ensures c.from-here.ensures in let a = hints d s.requires.2 in (a.bits, hint-fits d s.args.reference s.requires.2 h (omega (arith, (long (goal.at.refs2ref-ref2ref-requires c).Start).0)), rw s.requires.1 a.held, ap length s.requires.1 ∙ (long (goal.at.refs2ref-ref2ref-requires c).Start).1, omega (arith, c.from-r.ensures))

pub returns-else-is_far : goal.returns-else-is_far
unfolding mfmv_of from_current ref_to_ref held_at
returns-else-is_far c = let s = c in let d = s.args.d in let h = lent-hint d s.args.reference s.requires.0 c.from-r.ensures c.from-here.ensures in let e = kept w16 c.get_poc_diff-there.type_inv (c.get_poc_diff-there.ensures ∙ ap (λ (n : ℕ). distance d.hint_bits n d.current_hint) h) in let t = c.toward_current-ref2cur.ensures ∙ ap (λ z. towards z s.args.reference) e in rw (t, sym (ap far e) ∙ sym c.is_far.ensures ∙ c.if-is_far.false, c.refs2ref-ref2ref.ensures, s.requires.1, h, c.from-r.ensures)
