-- How often a deadline is asked while turns are served.
use Rattle.std.proofs.Common.{◌≡◌, ◌+◌, ◌≤◌, ℕ, Bool, not, cond, List, [], ◌∷◌, ◌++◌, ◌∙◌, length, length-append, refl, sym, ap, arith, Err}
use Rattle.std.specs.List.{AllByRecursion}
use Rattle.std.proofs.lemmas.List.Elements.{filter-append}
use Rattle.office_wire.specs.declared.serve_fault.ServeFault.TheVariants.{WriteFailed}
use Rattle.office_wire.specs.Exchange.{Turn, is_last, IsOpenTurn, Closes, whole, bad_length, bad_head, Says, next, closing}
use Rattle.office_wire.specs.Serving.{AskedAfter}
use Rattle.office_wire.specs.Deadlines.{open_turns, CountsAsked}

-- open turns are so all of them
all_open : (turns : List Turn) → AllByRecursion IsOpenTurn turns → open_turns turns ≡ turns
all_open [] are_open = refl
all_open (t ∷ turns) are_open =
    ap (λ (b : Bool). cond (not b) (t ∷ open_turns turns) (open_turns turns)) are_open.0.stays ∙ ap (λ (l : List Turn). t ∷ l) (all_open turns are_open.1)

open_join : (ts us : List Turn) → length (open_turns (ts ++ us)) ≡ length (open_turns ts) + length (open_turns us)
open_join ts us = ap (λ (l : List Turn). length l) (filter-append (λ (t : Turn). not (is_last t)) ts us) ∙ length-append (open_turns ts) (open_turns us)

-- a last turn is none
shut_none : (rest text : List ℕ) (last : List Turn) → Closes rest last text → open_turns last ≡ []
shut_none rest text last (whole t more is shut at one said) = ap open_turns one ∙ ap (λ (b : Bool). cond (not b) (t ∷ []) []) shut
shut_none rest text last (bad_length h more r is asks at none said) = ap open_turns none
shut_none rest text last (bad_head never none said) = ap open_turns none

-- the turn of one response is one at most
said_few : (rest text : List ℕ) (last : List Turn) → Says rest last text → length (open_turns last) ≤ 1
said_few rest text last (next t more is at one said) =
    let same = ap (λ (l : List Turn). length (open_turns l)) one ∙ ap (λ (b : Bool). length (cond (not b) (t ∷ []) [])) is.stays in omega (arith, same)
said_few rest text last (closing shut) = let none = ap (λ (l : List Turn). length l) (shut_none rest text last shut) in omega (arith, none)

module _ (asked asked_now : ℕ) (turns : List Turn) (are_open : AllByRecursion IsOpenTurn turns) (each : AskedAfter turns asked asked_now) where
  -- asked after each of the turns, which are all
  pub counts_open : asked_now ≡ asked + length (open_turns turns)
  counts_open = each ∙ ap (λ (l : List Turn). asked + length l) (sym (all_open turns are_open))

  -- and no more, where the last response follows
  pub counts_closed : (rest text : List ℕ) (last : List Turn) → Closes rest last text → asked_now ≡ asked + length (open_turns (turns ++ last))
  counts_closed rest text last shut =
      let none = ap (λ (l : List Turn). length l) (shut_none rest text last shut) in
      let both = open_join turns last in
      let here = counts_open in
      omega (arith, none, both, here)

  -- or one that was cut
  pub counts_cut : (rest text : List ℕ) (last : List Turn) → Says rest last text → CountsAsked (turns ++ last) (Err WriteFailed) asked asked_now
  counts_cut rest text last said =
      let few = said_few rest text last said in
      let both = open_join turns last in
      let here = counts_open in
      (omega (arith, both, here), omega (arith, few, both, here))
