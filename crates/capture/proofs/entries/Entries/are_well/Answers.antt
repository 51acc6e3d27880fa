-- `capture::entries::Entries::are_well` meets its contract.
use mathlib.Core.Path.{sym, ◌∙◌}
use borrow.Author.Tests.{eq-eqb, ne_eqb}
use Rattle.capture.specs.File.{well_file}
use Rattle.capture.proofs.Files.{has_all, found_some}
use Rattle.capture.proofs.entries.Entries.are_well.Goals as goal

pub returns-then-not-are_tiled : goal.returns-then-not-are_tiled
unfolding well_file
returns-then-not-are_tiled c =
    let s = c.args.self.now in
    rw (has_all _ s.some s.few s.there, sym c.are_tiled.ensures ∙ c.if-not-are_tiled.true)

pub returns-then-not-are_whole : goal.returns-then-not-are_whole
unfolding well_file
returns-then-not-are_whole c =
    let s = c.args.self.now in
    let tiles = sym c.are_tiled.ensures ∙ c.if-not-are_tiled.false in
    rw (has_all _ s.some s.few s.there, tiles, sym c.are_whole.ensures ∙ c.if-not-are_whole.true)

pub returns-then-not-are_new : goal.returns-then-not-are_new
unfolding well_file
returns-then-not-are_new c =
    let s = c.args.self.now in
    let tiles = sym c.are_tiled.ensures ∙ c.if-not-are_tiled.false in
    let whole = sym c.are_whole.ensures ∙ c.if-not-are_whole.false in
    rw (has_all _ s.some s.few s.there, tiles, whole, sym c.are_new.ensures ∙ c.if-not-are_new.true)

pub returns-then-kind-ne1 : goal.returns-then-kind-ne1
unfolding well_file
returns-then-kind-ne1 c =
    let s = c.args.self.now in
    let tiles = sym c.are_tiled.ensures ∙ c.if-not-are_tiled.false in
    let whole = sym c.are_whole.ensures ∙ c.if-not-are_whole.false in
    let new = sym c.are_new.ensures ∙ c.if-not-are_new.false in
    rw (has_all _ s.some s.few s.there, tiles, whole, new, ne_eqb _ 1 (λ e. c.if-kind-ne1.true (c.kind.ensures ∙ e)))

pub returns : goal.returns
unfolding well_file
returns c =
    let s = c.args.self.now in
    let tiles = sym c.are_tiled.ensures ∙ c.if-not-are_tiled.false in
    let whole = sym c.are_whole.ensures ∙ c.if-not-are_whole.false in
    let new = sym c.are_new.ensures ∙ c.if-not-are_new.false in
    rw (has_all _ s.some s.few s.there, tiles, whole, new, eq-eqb _ 1 (sym c.kind.ensures ∙ c.if-kind-ne1.false), ← found_some s.file.now 2, ← c.find.ensures) (c.is_some.ensures)
