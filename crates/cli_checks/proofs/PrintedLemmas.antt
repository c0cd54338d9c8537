-- Policies as they are printed: the zones that a text names, the rules that are made of groups, and those that are wanted.
use Rattle.std.proofs.Common.{◌≡◌, inl, inr, ℕ, ◌+◌, ◌<◌, ◌≤◌, List, [], ◌∷◌, ◌++◌, length, drop, get_or, Result, Ok, Err, refl, sym, ap, ◌∙◌, subst, append_assoc, append-nil, Bor}
use Rattle.std.specs.List.{All}
use Rattle.std.proofs.lemmas.List.{drop_more, drop_all}
use Rattle.std.proofs.lemmas.List.Elements.{All-nil, All-cons, All-head, All-tail}
use Rattle.dns_names.specs.Reading.{absolute_name}
use Rattle.grant_policy.specs.declared.policy_fault.PolicyFault.{PolicyFault}
use Rattle.grant_policy.specs.declared.policy_fault.PolicyFault.TheVariants as policies
use Rattle.grant_policy.specs.declared.rule.Rule.{Rule}
use Rattle.grant_policy.specs.Documents.{document_of}
use Rattle.grant_policy.specs.Faults.{Refuses}
use Rattle.policy_build.specs.declared.build_fault.BuildFault.{BuildFault}
use Rattle.policy_build.specs.declared.build_fault.BuildFault.TheVariants as builds
use Rattle.policy_build.specs.Faults.{Refuses as NotBuilt}
use Rattle.policy_build.specs.Making.{BuiltOf, built_of, rules_made}
use Rattle.policy_build.specs.Reading.{source_of}
use Rattle.policy_build.specs.Sources.{SourceOf}
use Rattle.policy_tools.specs.Slices.{AreKept}
use Rattle.cli_core.specs.declared.commands.policy.PolicySource.TheVariants.{Groups}
use Rattle.cli_core.specs.declared.refusal.Refusal.{Refusal}
use Rattle.cli_core.specs.declared.line_fault.LineFault.{LineFault}
use Rattle.cli_core.specs.declared.line_fault.LineFault.TheVariants.{Refused, ReadFailed, NoMemory}
use Rattle.cli_core.specs.LineFaults.{◌>>=◌, Gives, of_builds, of_names, of_groups, of_policies, of_policy}
use Rattle.cli_checks.specs.PrintedPolicies.{names_from, rules_from}
use Rattle.cli_checks.proofs.OriginLemmas.{texts}

-- ---- the zones that words name

abbrev Name' : Type 0
Name' = List (List ℕ)

-- what is read after these
abbrev with_names : List Name' → Result (List Name') Refusal → Result (List Name') Refusal
with_names done rest = rest >>= λ others. Ok (done ++ others)

-- the names of all words are those so far, and those of the others
abbrev pub NamesFrom : List (Bor (List ℕ)) → ℕ → List Name' → Type 0
NamesFrom words i names = names_from (texts words) ≡ with_names names (names_from (texts (drop i words)))

names_more : (done : List Name') (name : Name') (rest : Result (List Name') Refusal) → with_names done (rest >>= λ others. Ok (name ∷ others)) ≡ with_names (done ++ name ∷ []) rest
names_more done name (Ok others) = ap (λ (l : List Name'). Ok l) (sym (append_assoc done (name ∷ []) others))
names_more done name (Err refusal) = refl

pub names_first : (words : List (Bor (List ℕ))) → NamesFrom words 0 []
names_first words = by (names_from (texts words))
  where
    by : (rest : Result (List Name') Refusal) → rest ≡ with_names [] rest
    by (Ok names) = refl
    by (Err refusal) = refl

module _ (words : List (Bor (List ℕ))) (i : ℕ) (names : List Name') (word : Bor (List ℕ)) (lt : i < length words) (is : word ≡ get_or words i word) (so_far : NamesFrom words i names) where
  abbrev others : Result (List Name') Refusal
  others = names_from (texts (drop (i + 1) words))

  abbrev here : Result Name' Refusal
  here = of_names (absolute_name word.now)

  this : names_from (texts words) ≡ with_names names (here >>= λ name. others >>= λ ns. Ok (name ∷ ns))
  this =
      so_far
      ∙ (ap (λ (ws : List (Bor (List ℕ))). with_names names (names_from (texts ws))) (drop_more words i word lt)
      ∙ ap (λ (w : Bor (List ℕ)). with_names names (names_from (w.now ∷ texts (drop (i + 1) words)))) (sym is))

  pub names_next : (name : Name') → here ≡ Ok name → NamesFrom words (i + 1) (names ++ name ∷ [])
  names_next name e =
      this ∙ (ap (λ (r : Result Name' Refusal). with_names names (r >>= λ n. others >>= λ ns. Ok (n ∷ ns))) e ∙ names_more names name others)

  names_refused : (refusal : Refusal) → here ≡ Err refusal → names_from (texts words) ≡ Err refusal
  names_refused refusal e = this ∙ ap (λ (r : Result Name' Refusal). with_names names (r >>= λ n. others >>= λ ns. Ok (n ∷ ns))) e

  pub names_stop : {X Y : Type 0} (seen : Y → Name') (view : X → List Name') (fault : LineFault) → Gives seen (Err fault) here → Gives view (Err fault) (names_from (texts words))
  names_stop seen view (Refused refusal) given = names_refused refusal given
  names_stop seen view NoMemory given = tt
  names_stop seen view ReadFailed given = absurd given

pub names_all : (words : List (Bor (List ℕ))) (i : ℕ) (names : List Name') → length words ≤ i → NamesFrom words i names → names_from (texts words) ≡ Ok names
names_all words i names all so_far =
    so_far ∙ (ap (λ (l : List (Bor (List ℕ))). with_names names (names_from (texts l))) (drop_all i words all) ∙ ap (λ (l : List Name'). Ok l) (append-nil names))

-- ---- the rules that are made of groups

module _ (text : List ℕ) (source : SourceOf) (built : BuiltOf) (read : source_of (document_of text) ≡ Ok source) (made : built_of source ≡ Ok built) where
  rules_built : rules_from Groups text ≡ Ok (rules_made built.rules)
  rules_built =
      ap (λ (r : Result SourceOf BuildFault). of_builds r >>= λ s. of_builds (built_of s) >>= λ b. Ok (rules_made b.rules)) read
      ∙ ap (λ (r : Result BuiltOf BuildFault). of_builds r >>= λ b. Ok (rules_made b.rules)) made

  -- what is read of their text are these rules
  pub policy_built : (again : Result (List Rule) PolicyFault) (policy : List Rule) → again ≡ Ok (rules_made built.rules) → again ≡ Ok policy → rules_from Groups text ≡ Ok policy
  policy_built again policy is reads = rules_built ∙ ap (λ (r : Result (List Rule) PolicyFault). of_policies r) (sym is ∙ reads)

-- what is not built is refused
pub build_refused : {X : Type 0} (view : X → List Rule) (text : List ℕ) (source : SourceOf) (fault : BuildFault) → source_of (document_of text) ≡ Ok source → NotBuilt fault (built_of source) → Gives view (Err (of_groups fault)) (rules_from Groups text)
build_refused view text source builds.NoMemory read refused = tt
build_refused view text source fault read refused =
    ap (λ (r : Result SourceOf BuildFault). of_builds r >>= λ s. of_builds (built_of s) >>= λ b. Ok (rules_made b.rules)) read
    ∙ ap (λ (r : Result BuiltOf BuildFault). of_builds r >>= λ b. Ok (rules_made b.rules)) refused

-- it is never refused
pub never_refused : {X Y : Type 0} (view : X → Y) (fault : PolicyFault) (rules : List Rule) (again : Result (List Rule) PolicyFault) (asked : Result Y Refusal) → again ≡ Ok rules → Refuses fault again → Gives view (Err (of_policy fault)) asked
never_refused view policies.NoMemory rules again asked is refused = tt
never_refused view fault rules again asked is refused = absurd cc

-- ---- the rules that are wanted

-- what holds of all holds of those that are kept
pub all_wanted : {X : Type 0} (Has P : X → Type 0) (xs kept : List X) → AreKept Has xs kept → All P xs → All P kept
all_wanted Has P [] kept none all = subst (λ ks. All P ks) (sym none) (All-nil P)
all_wanted Has P (x ∷ xs) kept (inl (here, (others, same, more))) all =
    subst (λ ks. All P ks) (sym same) (All-cons P x others (All-head P x xs all) (all_wanted Has P xs others more (All-tail P x xs all)))
all_wanted Has P (x ∷ xs) kept (inr (gone, more)) all = all_wanted Has P xs kept more (All-tail P x xs all)
