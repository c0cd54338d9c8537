-- What is found for names of which none nearer exists than one above them.
use Rattle.std.proofs.Common.{◌≡◌, ℕ, List, [], ◌∷◌, ◌++◌, false, cond, ◌&&◌, Option, Some, None, refl, sym, ap, subst, ◌∙◌}
use Rattle.std.specs.Option.{option_or}
use Rattle.std.proofs.lemmas.Bool.{and_parts, false_from_ne_true}
use Rattle.dns_names.specs.Labels.{IsWithin}
use Rattle.dns_names.specs.Order.{same_name}
use Rattle.dns_names.proofs.NameLemmas.{is_within-Decides}
use Rattle.dns_data.specs.declared.record.Record.{Record}
use Rattle.zone_core.proofs.SetLemmas.{name_is}
use Rattle.zone_answers.specs.declared.query_type.QueryType.{QueryType}
use Rattle.zone_answers.specs.Answers.{Name, asterisk, Exists, Outside}
use Rattle.zone_answers.specs.AnswerTests.{is_there, wildcard_over, if_there, source_of, is_cut_at, cut_over, is_ds, unless_parent, referral, found_from, found_below, found_at}
use Rattle.zone_answers.specs.ChangeTests.{wildcard_under, found_below_cut, found_under}
use Rattle.zone_answers.proofs.SourceLemmas.{there-Decides, exists_above}
use Rattle.zone_answers.proofs.CutLemmas.{cut-Decides, IsOver, over_is}

or_none : {X : Type 0} (o : Option X) → option_or o None ≡ o
or_none None = refl
or_none (Some x) = refl

module _ (rs : List Record) (label : List ℕ) (encloser : Name) (gone : ¬ Exists rs (label ∷ encloser)) where
  -- a name below is not there
  absent : (front : Name) → ¬ Exists rs (front ++ label ∷ encloser)
  absent front has = gone (exists_above rs (front ++ label ∷ encloser) front (label ∷ encloser) refl has)

  not_there : (front : Name) → is_there rs (front ++ label ∷ encloser) ≡ false
  not_there front = false_from_ne_true (is_there rs (front ++ label ∷ encloser)) (λ t. absent front ((there-Decides rs (front ++ label ∷ encloser)).0 t))

  -- ---- the source

  wildcard_same : (front : Name) → wildcard_over rs (front ++ label ∷ encloser) ≡ wildcard_under rs encloser
  wildcard_same [] = refl
  wildcard_same (f ∷ front) =
      ap (λ b. cond b (Some (asterisk ∷ (front ++ label ∷ encloser))) (wildcard_over rs (front ++ label ∷ encloser))) (not_there front) ∙ wildcard_same front

  source_same : (front : Name) → source_of rs (front ++ label ∷ encloser) ≡ if_there rs (wildcard_under rs encloser)
  source_same front =
      ap (λ b. cond b (Some (front ++ label ∷ encloser)) (if_there rs (wildcard_over rs (front ++ label ∷ encloser)))) (not_there front)
      ∙ ap (if_there rs) (wildcard_same front)

  -- ---- the cut

  module _ (origin : Name) where
    no_cut : (name : Name) → ¬ Exists rs name → is_cut_at origin rs name ≡ false
    no_cut name none =
        false_from_ne_true (is_cut_at origin rs name) (λ t. let cut = (cut-Decides origin rs name).0 t in none (cut.1.0, cut.1.1, ([], cut.1.2)))

    cut_same : (front : Name) → cut_over origin rs (front ++ label ∷ encloser) ≡ cut_over origin rs encloser
    cut_same [] =
        ap (λ b. option_or (cut_over origin rs encloser) (cond b (Some (label ∷ encloser)) None)) (no_cut (label ∷ encloser) gone) ∙ or_none (cut_over origin rs encloser)
    cut_same (f ∷ front) =
        ap (λ b. option_or (cut_over origin rs (front ++ label ∷ encloser)) (cond b (Some (f ∷ front ++ label ∷ encloser)) None)) (no_cut (f ∷ front ++ label ∷ encloser) (absent (f ∷ front)))
        ∙ or_none (cut_over origin rs (front ++ label ∷ encloser)) ∙ cut_same front

    module _ (asked : QueryType) (front : Name) where
      no_parent : (o : Option Name) → IsOver origin rs (front ++ label ∷ encloser) o → unless_parent (front ++ label ∷ encloser) asked o ≡ o
      no_parent None over = refl
      no_parent (Some cut) over =
          let other : (is_ds asked && same_name (front ++ label ∷ encloser) cut) ≡ false =
          false_from_ne_true (is_ds asked && same_name (front ++ label ∷ encloser) cut) (λ t.
          let same : front ++ label ∷ encloser ≡ cut = name_is (front ++ label ∷ encloser) cut (and_parts (is_ds asked) (same_name (front ++ label ∷ encloser) cut) t).1 in
          absent front (subst (Exists rs) (sym same) (over.here.1.0, over.here.1.1, ([], over.here.1.2)))) in
          ap (λ b. cond b None (Some cut)) other

      referral_same : referral origin rs (front ++ label ∷ encloser) asked ≡ cut_over origin rs encloser
      referral_same = no_parent (cut_over origin rs (front ++ label ∷ encloser)) (over_is origin rs (front ++ label ∷ encloser)) ∙ cut_same front

      by_cut : (o : Option Name) → found_below rs (front ++ label ∷ encloser) asked o ≡ found_below_cut rs encloser asked o
      by_cut None = ap (found_from rs asked) (source_same front)
      by_cut (Some cut) = refl

      -- what is found does not depend on the name
      pub found_same : IsWithin (front ++ label ∷ encloser) origin → found_at origin rs (front ++ label ∷ encloser) asked ≡ found_under origin rs encloser asked
      found_same within =
          ap (λ b. cond b (found_below rs (front ++ label ∷ encloser) asked (referral origin rs (front ++ label ∷ encloser) asked)) Outside)
          ((is_within-Decides (front ++ label ∷ encloser) origin).1 within)
          ∙ ap (found_below rs (front ++ label ∷ encloser) asked) referral_same ∙ by_cut (cut_over origin rs encloser)
