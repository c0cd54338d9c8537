use Rattle.std.proofs.Common.{inl, inr, length, arith, subst, refl, ℕ, List, length-take}
use Rattle.std.proofs.lemmas.Bool.{cases_lt}
use Rattle.std.proofs.lemmas.List.{take_all}
use Rattle.httparse.specs.Grammar.{HasNoRequest}
use Rattle.office_wire.proofs.HeadLemmas.{never_from_window, never_from_none, none_while_waiting, reads_whole}
use Rattle.office_wire.proofs.framing.method_at.Goals as goal

pub read_head-requires-clause-window : goal.read_head-requires-clause-window
read_head-requires-clause-window c = rw c.window_of.ensures (simp length-take (omega arith))

pub returns-in-Whole : goal.returns-in-Whole
returns-in-Whole c =
    let is = rw c.window_of.ensures at c.in-Whole.ensures in
    inr (is.0, _, reads_whole c.args.bytes.now _ is.0 c.in-Whole.heading.len is.2 is.1.len, is.1.asked.method)

pub returns-in-Partial : goal.returns-in-Partial
returns-in-Partial c =
    let bytes = c.args.bytes.now in
    let is = rw c.window_of.ensures at c.in-Partial.ensures in
    let none : HasNoRequest bytes = elim (cases_lt 16384 (length bytes)) [
      | inl long ↦ none_while_waiting bytes c.requires.waits (never_from_none bytes (omega arith) is.0)
      | inr short ↦ subst (λ (l : List ℕ). HasNoRequest l) (take_all 16384 bytes short) is.0
    ] in
    inl (none, refl)

pub returns-in-Hopeless : goal.returns-in-Hopeless
returns-in-Hopeless c =
    let bytes = c.args.bytes.now in
    inl (none_while_waiting bytes c.requires.waits (never_from_window bytes (rw c.window_of.ensures at c.in-Hopeless.ensures)), refl)
