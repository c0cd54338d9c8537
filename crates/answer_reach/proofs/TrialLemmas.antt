-- What a trial tells of the zone after its update.
use Rattle.std.proofs.Common.{◌≡◌, ℕ, List, [], ◌∷◌, length, Bool, true, false, cond, not, ◌&&◌, ◌||◌, Option, Some, None, is_some, IfSome, Result, IfOk, arith, refl, sym, ap, subst, ◌∙◌, inl, inr}
use Rattle.std.specs.Bool.{OnTrue}
use Rattle.std.specs.List.{AllByRecursion, Contains, list_all}
use Rattle.std.proofs.lemmas.Bool.{and_parts}
use Rattle.std.proofs.lemmas.Result.{IfOk-weaker}
use Rattle.dns_names.specs.Labels.{IsWithin, is_within, parent_of}
use Rattle.dns_names.proofs.NameLemmas.{is_within-Decides}
use Rattle.dns_data.specs.declared.record.Record.{Record}
use Rattle.dns_data.specs.declared.rdata.Data.{Data}
use Rattle.dns_data.specs.declared.rdata.Data.TheVariants as variants
use Rattle.grant_policy.specs.declared.rule.Rule.{Rule}
use Rattle.zone_core.specs.declared.update.Operation.{Operation}
use Rattle.zone_core.specs.declared.update.Operation.TheVariants.{Add, DeleteRrset, DeleteName, DeleteRecord}
use Rattle.zone_core.specs.Sets.{listing, part, within}
use Rattle.zone_core.specs.Zones.{ZoneOf, IsZone}
use Rattle.zone_core.specs.Effects.{zone_after}
use Rattle.zone_core.specs.Parts.{part_of, at_names}
use Rattle.zone_core.specs.declared.update.Prerequisite.{Prerequisite}
use Rattle.zone_core.specs.Updates.{UpdateOf, IsUpdate, ActsWithin, acted_name}
use Rattle.zone_core.specs.Views.{AreOfZone}
use Rattle.zone_core.proofs.MetLemmas.{among_of, of_among}
use Rattle.zone_core.proofs.BelowLemmas.{no_test, within_within}
use Rattle.zone_answers.specs.declared.query_type.QueryType.{QueryType}
use Rattle.zone_answers.specs.Answers.{Name, asterisk, AnswerOf, IsAnswer}
use Rattle.zone_answers.specs.AnswerTests.{is_there}
use Rattle.zone_answers.specs.AnswerChanges.{AreSame, Differs}
use Rattle.zone_answers.proofs.CutLemmas.{within_root, within_or_is}
use Rattle.answer_reach.specs.declared.trial.Trial.{Trial}
use Rattle.answer_reach.specs.ReachTests.{has_name, is_long, asked_in_turn}
use Rattle.answer_reach.specs.Trials.{permits, IsTried, IsTrial, agrees, both_agree, is_whole_at, is_server_covered, covers_servers}
use Rattle.answer_reach.specs.Turns.{IsPermittedOperation, IsPermitted}
use Rattle.answer_reach.proofs.NamedLemmas.{or_is}
use Rattle.answer_reach.proofs.DifferLemmas.{on_true}
use Rattle.answer_reach.proofs.NearLemmas.{SameAt, Near, NearAt, answer_moves}
use Rattle.answer_reach.proofs.PartLemmas.{all_true, rows_of, whole_zone, part_zone, same_at, near}

-- ---- updates that are permitted

operation_is : (rules : List Rule) (caller : List ℕ) (origin : Name) (op : Operation) → permits rules caller origin op ≡ true → IsPermittedOperation rules caller origin op
operation_is rules caller origin (Add r) e = e
operation_is rules caller origin (DeleteRrset name t) e = e
operation_is rules caller origin (DeleteName name) e = absurd cc
operation_is rules caller origin (DeleteRecord name rdata) e = e

operations_are : (rules : List Rule) (caller : List ℕ) (origin : Name) (ops : List Operation) → list_all (permits rules caller origin) ops ≡ true → AllByRecursion (IsPermittedOperation rules caller origin) ops
operations_are rules caller origin [] e = tt
operations_are rules caller origin (op ∷ ops) e =
    let both = and_parts (permits rules caller origin op) (list_all (permits rules caller origin) ops) e in
    (operation_is rules caller origin op both.0, operations_are rules caller origin ops both.1)

pub is_permitted : (rules : List Rule) (caller : List ℕ) (origin : Name) (covered : List Name) (update : UpdateOf) → IsTried rules caller origin covered update → IsPermitted rules caller origin update
is_permitted rules caller origin covered update tried = record { is = tried.is; within = tried.within; operations = operations_are rules caller origin update.operations tried.permitted }

-- ---- what the part tells

module _ (rules : List Rule) (caller : List ℕ) (zone : ZoneOf) (z : IsZone zone) (trial : Trial) (is : IsTrial rules caller zone trial) where
  abbrev covered : List Name
  covered = trial.covered.items

  abbrev ps : List Record
  ps = listing trial.after.records

  abbrev rs : List Record
  rs = listing (zone_after zone trial.update).records

  abbrev after_is : trial.after ≡ zone_after (part_of zone (at_names zone.origin covered)) trial.update
  after_is = is.after

  agrees_near : (name : Name) → agrees zone trial name ≡ true → Near ps rs name
  agrees_near name e =
      let both = and_parts (has_name covered name) (is_there ps name || list_all (λ r. has_name covered r.owner) (listing (part zone.records (within name)))) e in
      subst (λ (a : ZoneOf). Near (listing a.records) rs name) (sym after_is)
      (near zone trial.update covered z is.tried.is is.tried.within is.tried.unconditional is.tried.covers name both.0
      (ap (λ (a : ZoneOf). is_there (listing a.records) name || list_all (λ r. has_name covered r.owner) (listing (part zone.records (within name)))) (sym after_is) ∙ both.1))

  both_near : (name : Name) → both_agree zone trial name ≡ true → Near ps rs name × Near ps rs (asterisk ∷ name)
  both_near name e = by_test (is_long name) both.1
    where
      both : (agrees zone trial name ≡ true) × (cond (is_long name) false (agrees zone trial (asterisk ∷ name)) ≡ true)
      both = and_parts (agrees zone trial name) (cond (is_long name) false (agrees zone trial (asterisk ∷ name))) e

      by_test : (b : Bool) → cond b false (agrees zone trial (asterisk ∷ name)) ≡ true → Near ps rs name × Near ps rs (asterisk ∷ name)
      by_test true f = absurd cc
      by_test false f = (agrees_near name both.0, agrees_near (asterisk ∷ name) f)

  opened : (name : Name) (b : Bool) → IsWithin name zone.origin → (not (is_within name zone.origin) || b) ≡ true → b ≡ true
  opened name b inside e = (elim (or_is (not (is_within name zone.origin)) b e) [
    | inl off ↦ no_test (not (is_within name zone.origin)) off (ap not ((is_within-Decides name zone.origin).1 inside))
    | inr here ↦ here
  ])

  whole_near : (name : Name) → is_whole_at zone trial name ≡ true → IsWithin name zone.origin → NearAt zone.origin ps rs name
  whole_near [] e inside m up home =
      subst (λ (n : Name). Near ps rs n × Near ps rs (asterisk ∷ n)) (sym (within_root m up)) (both_near [] (opened [] (both_agree zone trial []) inside e))
  whole_near (label ∷ labels) e inside m up home =
      let both = and_parts (both_agree zone trial (label ∷ labels)) (is_whole_at zone trial labels) (opened (label ∷ labels) (both_agree zone trial (label ∷ labels) && is_whole_at zone trial labels) inside e) in
      (elim (within_or_is label labels m up) [
        | inl same ↦ subst (λ (n : Name). Near ps rs n × Near ps rs (asterisk ∷ n)) (sym same) (both_near (label ∷ labels) both.0)
        | inr above ↦ whole_near labels both.1 (within_within labels m zone.origin above home) m above home
      ])

  server_same : (d : Data) (server : Name) → d ≡ variants.Ns server → is_server_covered covered d ≡ true → SameAt ps rs server
  server_same d server e covers =
      let here : has_name covered server ≡ true = ap (is_server_covered covered) (sym e) ∙ covers in
      subst (λ (a : ZoneOf). SameAt (listing a.records) rs server) (sym after_is)
      (same_at zone trial.update covered z is.tried.is is.tried.within is.tried.unconditional is.tried.covers server here)

  -- an answer of the part is one of the zone, if the part is whole at all names that are asked for in turn and has all servers
  moved : (name : Name) (asked : QueryType) (a : AnswerOf) → IsAnswer trial.after.origin ps name asked a → list_all (is_whole_at zone trial) (asked_in_turn name asked a) ≡ true
      → covers_servers covered a.authority ≡ true → IsAnswer zone.origin rs name asked a
  moved name asked a answer whole servers =
      let w = whole_zone zone trial.update covered z is.tried.is is.tried.within is.tried.unconditional is.tried.covers in
      let p = part_zone zone trial.update covered z is.tried.is is.tried.within is.tried.unconditional is.tried.covers in
      let from = rows_of trial.after (subst IsZone (sym after_is) p) in
      let origin : trial.after.origin ≡ zone.origin = ap (λ (a : ZoneOf). a.origin) after_is in
      answer_moves zone.origin ps rs (subst (λ (o : Name). AreOfZone o ps) origin from) (rows_of (zone_after zone trial.update) w) asked name a
      (subst (λ (o : Name). IsAnswer o ps name asked a) origin answer)
      (λ n in_turn inside. whole_near n (all_true (is_whole_at zone trial) (asked_in_turn name asked a) n whole in_turn) inside)
      (λ r server in_r e. server_same r.rdata server e (all_true (λ (r : Record). is_server_covered covered r.rdata) a.authority r servers in_r))

  pub otherwise : (name : Name) (asked : QueryType) (a b : AnswerOf) → IsAnswer zone.origin (listing zone.records) name asked a → IsAnswer trial.after.origin ps name asked b
      → ¬ AreSame a b → list_all (is_whole_at zone trial) (asked_in_turn name asked b) ≡ true → covers_servers covered b.authority ≡ true
      → Differs zone.origin (listing zone.records) rs name asked
  otherwise name asked a b before then differ whole servers = (a, b, before, moved name asked b then whole servers, differ)

-- ---- names from one up to the origin

module _ (zone : ZoneOf) (trial : Trial) where
  pub whole_out : (name : Name) → is_within name zone.origin ≡ false → true ≡ is_whole_at zone trial name
  whole_out [] e = sym (ap (λ b. not b || both_agree zone trial []) e)
  whole_out (label ∷ labels) e = sym (ap (λ b. not b || (both_agree zone trial (label ∷ labels) && is_whole_at zone trial labels)) e)

  pub whole_not : (name : Name) → is_within name zone.origin ≡ true → both_agree zone trial name ≡ false → false ≡ is_whole_at zone trial name
  whole_not [] e f = sym (λ i. not (e i) || f i)
  whole_not (label ∷ labels) e f = sym (λ i. not (e i) || (f i && is_whole_at zone trial labels))

  pub whole_top : (name : Name) → parent_of name ≡ None → is_within name zone.origin ≡ true → both_agree zone trial name ≡ true → true ≡ is_whole_at zone trial name
  whole_top [] top e f = sym (λ i. not (e i) || f i)
  whole_top (label ∷ labels) top e f = absurd cc

  pub whole_up : (name above : Name) → parent_of name ≡ Some above → is_within name zone.origin ≡ true → both_agree zone trial name ≡ true → is_whole_at zone trial above ≡ is_whole_at zone trial name
  whole_up [] above up e f = absurd cc
  whole_up (label ∷ labels) above up e f =
      let same : labels ≡ above = cc in
      sym (λ i. not (e i) || (f i && is_whole_at zone trial (same i)))

-- ---- clauses

pub is_tried : (rules : List Rule) (caller : List ℕ) (origin : Name) (covered : List Name) (update : UpdateOf) (b : Bool) → IsUpdate update → ActsWithin origin update → length update.prerequisites ≡ 0
    → list_all (permits rules caller origin) update.operations ≡ true → b ≡ list_all (λ op. has_name covered (acted_name op)) update.operations → OnTrue b (IsTried rules caller origin covered update)
is_tried rules caller origin covered update b is within bare permitted covers =
    on_true b (IsTried rules caller origin covered update) (λ e.
    record { is = is; within = within; unconditional = none update.prerequisites bare; permitted = permitted; covers = sym covers ∙ e })
  where
    none : (ps : List Prerequisite) → length ps ≡ 0 → ps ≡ []
    none [] e = refl
    none (p ∷ ps) e = absurd (omega (arith, e))

-- ---- questions that are answered otherwise

module _ (rules : List Rule) (caller : List ℕ) (zone : ZoneOf) (z : IsZone zone) (trial : Trial) (is : IsTrial rules caller zone trial) (name : Name) (asked : QueryType) where
  abbrev Changes : Type 0
  Changes = Differs zone.origin (listing zone.records) (listing (zone_after zone trial.update).records) name asked

  pub told_of : {E : Type 0} (a b : AnswerOf) (names : List Name) (r : Result Bool E) → IsAnswer zone.origin (listing zone.records) name asked a → IsAnswer trial.after.origin (listing trial.after.records) name asked b
      → ¬ AreSame a b → covers_servers trial.covered.items b.authority ≡ true → names ≡ asked_in_turn name asked b → IfOk r (λ b. b ≡ list_all (is_whole_at zone trial) names) → IfOk r (λ b. OnTrue b Changes)
  told_of a b names r before then differ servers are whole =
      IfOk-weaker r _ _ (λ t e. on_true t Changes (λ yes.
      otherwise rules caller zone z trial is name asked a b before then differ (ap (list_all (is_whole_at zone trial)) (sym are) ∙ sym e ∙ yes) servers)) whole

-- ---- the first type

pub none_is : {A : Type 0} (o : Option A) → is_some o ≡ false → o ≡ None
none_is None e = refl
none_is (Some x) e = absurd cc

pub first_type : (asked : QueryType) (types : List QueryType) (P : QueryType → Type 0) → P asked → Contains (asked ∷ types) asked × P asked
first_type asked types P p = (of_among (asked ∷ types) asked (inl refl), p)

pub later_type : {E : Type 0} (asked : QueryType) (types : List QueryType) (P : QueryType → Type 0) (r : Result (Option QueryType) E)
    → IfOk r (λ found. IfSome found (λ t. Contains types t × P t)) → IfOk r (λ found. IfSome found (λ t. Contains (asked ∷ types) t × P t))
later_type asked types P r found = IfOk-weaker r _ _ more found
  where
    more : (o : Option QueryType) → IfSome o (λ t. Contains types t × P t) → IfSome o (λ t. Contains (asked ∷ types) t × P t)
    more None h = h
    more (Some t) h = (of_among (asked ∷ types) t (inr (among_of types t h.0)), h.1)
