-- Updates that are equal are one.
use Rattle.std.proofs.Common.{◌≡◌, ℕ, List, [], ◌∷◌, Bool, true, false, ◌&&◌, ◌==◌, refl, sym, ap, ◌∙◌}
use denote.Enum.Bare.{same_true, true_same}
use Rattle.std.specs.Bool.{Decides}
use Rattle.std.specs.Ordering.{is_eq}
use Rattle.std.specs.Cmp.Lexicographic.{pointwise}
use Rattle.std.specs.List.{AllByRecursion}
use Rattle.std.proofs.lemmas.Bool.Decides.{Decides-and, Decides-like, Decides-eqb}
use Rattle.std.proofs.lemmas.Slice.Eq.{slice_eq-Decides}
use Rattle.dns_names.specs.Order.{same_name}
use Rattle.dns_names.proofs.NameLemmas.{same_name-Decides}
use Rattle.dns_data.specs.declared.record.Record.{Record}
use Rattle.dns_data.specs.declared.record_type.RecordType.{RecordType}
use Rattle.dns_data.specs.declared.rdata.Data.{Data}
use Rattle.dns_data.specs.Rdata.{IsRdata, IsRecord}
use Rattle.dns_data.specs.RecordOrder.{data_order, rank_of}
use Rattle.dns_data.specs.contracts.record.RecordPartialEq.TheImpl as of_record
use Rattle.dns_data.specs.contracts.record_type.RecordType.{the_type}
use Rattle.dns_data.specs.contracts.record_type.RecordTypePartialEq.TheImpl as of_type
use Rattle.dns_data.proofs.RecordOrderLemmas.{one_rank, data_answers}
use Rattle.dns_data.proofs.SameLemmas.{apart, data_decides}
use Rattle.zone_core.specs.declared.update.Prerequisite.{Prerequisite}
use Rattle.zone_core.specs.declared.update.Prerequisite.TheVariants.{RrsetExists, RrsetEquals, RrsetAbsent, NameUsed, NameUnused}
use Rattle.zone_core.specs.declared.update.Operation.{Operation}
use Rattle.zone_core.specs.declared.update.Operation.TheVariants.{Add, DeleteRrset, DeleteName, DeleteRecord}
use Rattle.zone_core.specs.contracts.update.PrerequisitePartialEq.TheImpl as of_prerequisite
use Rattle.zone_core.specs.contracts.update.OperationPartialEq.TheImpl as of_operation
use Rattle.zone_core.specs.Prerequisites.{same_data}
use Rattle.zone_core.specs.Updates.{UpdateOf, IsPrerequisite, IsOperation, same_type, same_prerequisite, same_operation, EqualUpdatesAreOne}
use Rattle.zone_core.proofs.SetLemmas.{is_tied}

-- ---- parts

type_same : (t u : RecordType) → Decides (same_type t u) (t ≡ u)
type_same t u = Decides-like (same_type t u) (one_rank t u) (ap rank_of) (Decides-eqb (rank_of t) (rank_of u))

data_same : (a b : Data) → IsRdata a → IsRdata b → Decides (same_data a b) (a ≡ b)
data_same a b is also =
    let ties = data_answers a b is also (data_order a b) refl in
    (λ e. ties.0 (is_tied (data_order a b) e), λ e. ap is_eq (ties.1 e))

-- two parts that make one whole
two : {P Q R : Type 0} (s t : Bool) → Decides s P → Decides t Q → (P → Q → R) → (R → P) → (R → Q) → Decides (s && t) R
two s t p q whole first second = Decides-like (s && t) (λ both. whole both.0 both.1) (λ r. (first r, second r)) (Decides-and s t p q)

record_same : (r s : Record) → IsRecord r → IsRecord s → Decides (same_name r.owner s.owner && ((r.ttl == s.ttl) && same_data r.rdata s.rdata)) (r ≡ s)
record_same r s is also =
    Decides-like _ (λ e. λ i. record { owner = e.0 i; ttl = e.1.0 i; rdata = e.1.1 i })
    (λ e. (ap (λ (x : Record). x.owner) e, (ap (λ (x : Record). x.ttl) e, ap (λ (x : Record). x.rdata) e)))
    (Decides-and _ _ (same_name-Decides r.owner s.owner) (Decides-and _ _ (Decides-eqb r.ttl s.ttl) (data_same r.rdata s.rdata is.rdata also.rdata)))

-- ---- items

abbrev test : Prerequisite → ℕ
test (RrsetExists n t) = 0
test (RrsetEquals n d) = 1
test (RrsetAbsent n t) = 2
test (NameUsed n) = 3
test (NameUnused n) = 4

abbrev kind : Operation → ℕ
kind (Add r) = 0
kind (DeleteRrset n t) = 1
kind (DeleteName n) = 2
kind (DeleteRecord n d) = 3

prerequisite_same : (p q : Prerequisite) → IsPrerequisite p → IsPrerequisite q → Decides (same_prerequisite p q) (p ≡ q)
prerequisite_same (RrsetExists n t) (RrsetExists m u) is also = two _ _ (same_name-Decides n m) (type_same t u) (λ e f. λ i. RrsetExists (e i) (f i)) (λ e. cc) (λ e. cc)
prerequisite_same (RrsetEquals n d) (RrsetEquals m f) is also = two _ _ (same_name-Decides n m) (data_same d f is.1 also.1) (λ e f. λ i. RrsetEquals (e i) (f i)) (λ e. cc) (λ e. cc)
prerequisite_same (RrsetAbsent n t) (RrsetAbsent m u) is also = two _ _ (same_name-Decides n m) (type_same t u) (λ e f. λ i. RrsetAbsent (e i) (f i)) (λ e. cc) (λ e. cc)
prerequisite_same (NameUsed n) (NameUsed m) is also = Decides-like _ (ap NameUsed) (λ e. cc) (same_name-Decides n m)
prerequisite_same (NameUnused n) (NameUnused m) is also = Decides-like _ (ap NameUnused) (λ e. cc) (same_name-Decides n m)
prerequisite_same p q is also = apart test (same_prerequisite p q) p q refl refl

operation_same : (p q : Operation) → IsOperation p → IsOperation q → Decides (same_operation p q) (p ≡ q)
operation_same (Add r) (Add s) is also = Decides-like _ (ap Add) (λ e. cc) (record_same r s is also)
operation_same (DeleteRrset n t) (DeleteRrset m u) is also = two _ _ (same_name-Decides n m) (type_same t u) (λ e f. λ i. DeleteRrset (e i) (f i)) (λ e. cc) (λ e. cc)
operation_same (DeleteName n) (DeleteName m) is also = Decides-like _ (ap DeleteName) (λ e. cc) (same_name-Decides n m)
operation_same (DeleteRecord n d) (DeleteRecord m f) is also = two _ _ (same_name-Decides n m) (data_same d f is.1 also.1) (λ e f. λ i. DeleteRecord (e i) (f i)) (λ e. cc) (λ e. cc)
operation_same p q is also = apart kind (same_operation p q) p q refl refl

-- ---- lists of items

items_same : {A : Type 0} (E : A → A → Bool) (P : A → Type 0) → ((x y : A) → P x → P y → Decides (E x y) (x ≡ y))
    → (xs ys : List A) → AllByRecursion P xs → AllByRecursion P ys → Decides (pointwise E xs ys) (xs ≡ ys)
items_same E P one [] [] all also = (λ e. refl, λ e. refl)
items_same E P one [] (y ∷ ys) all also = (λ e. absurd cc, λ e. absurd cc)
items_same E P one (x ∷ xs) [] all also = (λ e. absurd cc, λ e. absurd cc)
items_same E P one (x ∷ xs) (y ∷ ys) all also = two _ _ (one x y all.0 also.0) (items_same E P one xs ys all.1 also.1) (λ e f. λ i. e i ∷ f i) (λ e. cc) (λ e. cc)

-- ---- updates

pub same_updates : EqualUpdatesAreOne
same_updates a b is also =
    two (pointwise same_prerequisite a.prerequisites b.prerequisites) (pointwise same_operation a.operations b.operations)
    (items_same same_prerequisite IsPrerequisite prerequisite_same a.prerequisites b.prerequisites is.prerequisites also.prerequisites)
    (items_same same_operation IsOperation operation_same a.operations b.operations is.operations also.operations)
    (λ e f. λ i. record { prerequisites = e i; operations = f i }) (ap (λ (u : UpdateOf). u.prerequisites)) (ap (λ (u : UpdateOf). u.operations))

-- ---- what `==` says of items

type_eq : (t u : RecordType) → Decides (of_type.ghosts.eq t u) (t ≡ u)
type_eq t u = (same_true the_type tt t u, true_same the_type t u)

record_eq : (r s : Record) → Decides (of_record.ghosts.eq r s) (r ≡ s)
record_eq r s =
    Decides-like _ (λ e. λ i. record { owner = e.0 i; ttl = e.1.0 i; rdata = e.1.1 i })
    (λ e. (ap (λ (x : Record). x.owner) e, (ap (λ (x : Record). x.ttl) e, ap (λ (x : Record). x.rdata) e)))
    (Decides-and _ _ (same_name-Decides r.owner s.owner) (Decides-and _ _ (Decides-eqb r.ttl s.ttl) (data_decides r.rdata s.rdata)))

prerequisite_eq : (p q : Prerequisite) → Decides (of_prerequisite.ghosts.eq p q) (p ≡ q)
prerequisite_eq (RrsetExists n t) (RrsetExists m u) = two _ _ (same_name-Decides n m) (type_eq t u) (λ e f. λ i. RrsetExists (e i) (f i)) (λ e. cc) (λ e. cc)
prerequisite_eq (RrsetEquals n d) (RrsetEquals m f) = two _ _ (same_name-Decides n m) (data_decides d f) (λ e f. λ i. RrsetEquals (e i) (f i)) (λ e. cc) (λ e. cc)
prerequisite_eq (RrsetAbsent n t) (RrsetAbsent m u) = two _ _ (same_name-Decides n m) (type_eq t u) (λ e f. λ i. RrsetAbsent (e i) (f i)) (λ e. cc) (λ e. cc)
prerequisite_eq (NameUsed n) (NameUsed m) = Decides-like _ (ap NameUsed) (λ e. cc) (same_name-Decides n m)
prerequisite_eq (NameUnused n) (NameUnused m) = Decides-like _ (ap NameUnused) (λ e. cc) (same_name-Decides n m)
prerequisite_eq p q = apart test (of_prerequisite.ghosts.eq p q) p q refl refl

operation_eq : (p q : Operation) → Decides (of_operation.ghosts.eq p q) (p ≡ q)
operation_eq (Add r) (Add s) = Decides-like _ (ap Add) (λ e. cc) (record_eq r s)
operation_eq (DeleteRrset n t) (DeleteRrset m u) = two _ _ (same_name-Decides n m) (type_eq t u) (λ e f. λ i. DeleteRrset (e i) (f i)) (λ e. cc) (λ e. cc)
operation_eq (DeleteName n) (DeleteName m) = Decides-like _ (ap DeleteName) (λ e. cc) (same_name-Decides n m)
operation_eq (DeleteRecord n d) (DeleteRecord m f) = two _ _ (same_name-Decides n m) (data_decides d f) (λ e f. λ i. DeleteRecord (e i) (f i)) (λ e. cc) (λ e. cc)
operation_eq p q = apart kind (of_operation.ghosts.eq p q) p q refl refl

-- updates as they are in memory
module _ (a b x y : UpdateOf) (inside : x ≡ a) (other : y ≡ b) (s : Bool) (first : s ≡ pointwise of_prerequisite.ghosts.eq x.prerequisites y.prerequisites) where
  tests : Decides s (x.prerequisites ≡ y.prerequisites)
  tests = slice_eq-Decides prerequisite_eq x.prerequisites y.prerequisites s first

  seen : {t : Bool} → Decides t (x ≡ y) → Decides t (a ≡ b)
  seen {t = t} d = Decides-like t (λ e. sym inside ∙ e ∙ other) (λ e. inside ∙ e ∙ sym other) d

  -- those whose prerequisites are equal are so where their operations are
  pub update_answers : s ≡ true → (t : Bool) → t ≡ pointwise of_operation.ghosts.eq x.operations y.operations → Decides t (a ≡ b)
  update_answers e t second =
      let acts = slice_eq-Decides operation_eq x.operations y.operations t second in
      seen {t = t} (λ f. λ i. record { prerequisites = tests.0 e i; operations = acts.0 f i }, λ same. acts.1 (ap (λ (u : UpdateOf). u.operations) same))

  -- and others are not
  pub update_differs : s ≡ false → Decides s (a ≡ b)
  update_differs e = seen {t = s} (λ f. absurd (let no : true ≡ false = sym f ∙ e in cc), λ same. tests.1 (ap (λ (u : UpdateOf). u.prerequisites) same))
