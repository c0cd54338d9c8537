-- The names of a group are answered alike.
use Rattle.std.proofs.Common.{◌≡◌, ◌≢◌, ℕ, List, [], ◌∷◌, ◌++◌, length, sym, ap, subst, ◌∙◌, arith, inr}
use Rattle.std.specs.List.{Contains}
use Rattle.dns_names.specs.Labels.{IsWithin}
use Rattle.dns_data.specs.declared.record.Record.{Record}
use Rattle.dns_data.specs.declared.rdata.Data.TheVariants as variants
use Rattle.zone_core.specs.Views.{AreOfZone}
use Rattle.zone_answers.specs.Answers.{Name, Exists, AnswerOf, IsAnswer}
use Rattle.zone_answers.specs.AnswerTests.{answer_to}
use Rattle.zone_answers.specs.AnswerChanges.{IsKnown, NamesOfGroupsAreAnsweredAlike}
use Rattle.zone_answers.proofs.LeadLemmas.{answer_one, answer_is}
use Rattle.zone_answers.proofs.LawLemmas.{one_alias}
use Rattle.zone_answers.proofs.RenamedLemmas.{renamed, alike}

below_root : (origin : Name) (rs : List Record) → AreOfZone origin rs → origin ≢ []
below_root origin rs of e = absurd (omega (arith, of.zone.not_root, ap (length {A = List ℕ}) e))

module _ (rs counted : List Record) (all : (r : Record) → Contains rs r → Contains counted r) where
  fewer : (name : Name) → ¬ Exists counted name → ¬ Exists rs name
  fewer name none has = none (has.0, all has.0 has.1, has.2)

  no_target : (name other : Name) → name ≡ other → ¬ IsKnown counted name → (r : Record) → Contains rs r → ¬ (r.rdata ≡ variants.Cname other)
  no_target name other same never r c e = never (inr (r, all r c, e ∙ ap variants.Cname (sym same)))

pub alike_answers : NamesOfGroupsAreAnsweredAlike
alike_answers origin rs counted e first second asked a of all in_first first_in in_second second_in answer =
    let one = one_alias origin rs of in
    let f = first_in.1 in
    let s = second_in.1 in
    let renames : answer_to origin rs (s.0 ++ s.1 ∷ e) asked ≡ renamed (f.0 ++ f.1 ∷ e) (s.0 ++ s.1 ∷ e) (answer_to origin rs (f.0 ++ f.1 ∷ e) asked) =
    alike origin rs asked (below_root origin rs of) one e
    f.0 f.1 (fewer rs counted all (f.1 ∷ e) f.4) (subst (λ (n : Name). IsWithin n origin) f.2 in_first) (no_target rs counted all first (f.0 ++ f.1 ∷ e) f.2 first_in.0)
    s.0 s.1 (fewer rs counted all (s.1 ∷ e) s.4) (subst (λ (n : Name). IsWithin n origin) s.2 in_second) (no_target rs counted all second (s.0 ++ s.1 ∷ e) s.2 second_in.0) in
    let here : answer_to origin rs second asked ≡ renamed first second (answer_to origin rs first asked) =
    ap (λ (n : Name). answer_to origin rs n asked) s.2 ∙ renames ∙ (λ i. renamed (sym f.2 i) (sym s.2 i) (answer_to origin rs (sym f.2 i) asked)) in
    subst (λ (b : AnswerOf). IsAnswer origin rs second asked b) (here ∙ ap (renamed first second) (sym (answer_one origin rs asked one first a answer)))
    (answer_is origin rs asked one second)
