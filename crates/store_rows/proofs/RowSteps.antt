-- Steps that may be refused, and texts that are compared with a spelling.
use Rattle.std.proofs.Common.{◌≡◌, ℕ, Bool, true, false, not, cond, List, Option, Some, None, Result, Ok, Err, refl, sym, ap, subst, ◌∙◌}
use Rattle.std.proofs.lemmas.Slice.Eq.{bytes_eq-Decides}
use Rattle.std.specs.Prelude.{bytes_eq, IfOk}
use Rattle.dns_names.specs.declared.name_fault.NameFault.{NameFault}
use Rattle.dns_data.specs.declared.data_fault.DataFault.{DataFault}
use Rattle.update_lines.specs.declared.items_fault.ItemsFault.{ItemsFault}
use Rattle.store_rows.specs.declared.row_fault.RowFault.{RowFault}
use Rattle.store_rows.specs.declared.row_fault.RowFault.TheVariants.{BadRow, NoMemory}
use Rattle.store_rows.specs.RowFaults.{◌>>=◌, Refuses, Reads, of_names, of_datas, of_updates_in, canonical}
use Rattle.store_rows.specs.RowReading.{or_bad}

-- a result with a value
abbrev pub done : {A : Type 0} → A → Result A RowFault
done x = Ok x

-- the value of a result
pub ok_is : {A : Type 0} (x y : A) → done x ≡ done y → x ≡ y
ok_is x y e = cc

-- the value of a step that did not fail
pub step_ok : {A B : Type 0} (r : Result A RowFault) (f : A → Result B RowFault) (y : B) → (r >>= f) ≡ Ok y → (x : A) × (r ≡ Ok x) × (f x ≡ Ok y)
step_ok (Ok x) f y e = (x, refl, e)
step_ok (Err d) f y e = absurd cc

pub names_ok : {A : Type 0} (r : Result A NameFault) (x : A) → of_names r ≡ Ok x → r ≡ Ok x
names_ok (Ok y) x e = cc
names_ok (Err f) x e = absurd cc

pub datas_ok : {A : Type 0} (r : Result A DataFault) (x : A) → of_datas r ≡ Ok x → r ≡ Ok x
datas_ok (Ok y) x e = cc
datas_ok (Err f) x e = absurd cc

pub updates_ok : {A : Type 0} (r : Result A ItemsFault) (x : A) → of_updates_in r ≡ Ok x → r ≡ Ok x
updates_ok (Ok y) x e = cc
updates_ok (Err f) x e = absurd cc

pub or_bad_ok : {A : Type 0} (o : Option A) (x : A) → or_bad o ≡ Ok x → o ≡ Some x
or_bad_ok None x e = absurd cc
or_bad_ok (Some y) x e = cc

-- a test that had to hold
pub needed_ok : {A : Type 0} (b : Bool) (x y : A) → cond b (done x) (Err BadRow) ≡ Ok y → (b ≡ true) × (x ≡ y)
needed_ok true x y e = (refl, cc)
needed_ok false x y e = absurd cc

-- ---- spellings

pub same_bytes : (text : List ℕ) → bytes_eq text text ≡ true
same_bytes text = (bytes_eq-Decides text text).1 refl

pub canonical_again : {A : Type 0} (text : List ℕ) (x : A) → canonical text text x ≡ Ok x
canonical_again text x = ap (λ (b : Bool). cond b (done x) (Err BadRow)) (same_bytes text)

pub canonical_ok : {A : Type 0} (spelling text : List ℕ) (x y : A) → canonical spelling text x ≡ Ok y → (spelling ≡ text) × (x ≡ y)
canonical_ok spelling text x y e =
    let n = needed_ok (bytes_eq spelling text) x y e in
    ((bytes_eq-Decides spelling text).0 n.0, n.1)

-- ---- what calls answered

-- what is read of one thing is what is read of the same
pub reads_same : {X Y : Type 0} (view : X → Y) (r : Result X RowFault) (read other : Result Y RowFault) → read ≡ other → Reads view r read → Reads view r other
reads_same view r read other e h = subst (Reads view r) e h

-- what holds of what a definition reads, holds of what a call answered
pub found_with : {X Y : Type 0} (view : X → Y) (Q P : X → Type 0) (r : Result X RowFault) (read : Result Y RowFault) → Reads view r read → IfOk r Q → ((x : X) → Q x → read ≡ Ok (view x) → P x) → IfOk r P
found_with view Q P (Ok x) read h q on = on x q h
found_with view Q P (Err e) read h q on = tt

pub found_in : {X Y : Type 0} (view : X → Y) (P : X → Type 0) (r : Result X RowFault) (read : Result Y RowFault) → Reads view r read → ((x : X) → read ≡ Ok (view x) → P x) → IfOk r P
found_in view P (Ok x) read h on = on x h
found_in view P (Err e) read h on = tt

-- a refusal of one thing that was given is one of any other
pub refuses_any : {Y Z : Type 0} (e : RowFault) (x : Y) (y : Z) → Refuses e (Ok x) → Refuses e (Ok y)
refuses_any NoMemory x y h = tt
refuses_any BadRow x y h = absurd cc

-- out of memory refuses anything
pub refuses_memory : {Y : Type 0} (e : RowFault) (x : Y) → e ≡ NoMemory → Refuses e (Ok x)
refuses_memory e x h = subst (λ (f : RowFault). Refuses f (Ok x)) (sym h) tt

-- and is when out of memory
pub refuses_none : {Y : Type 0} (e : RowFault) (x : Y) → Refuses e (Ok x) → e ≡ NoMemory
refuses_none NoMemory x h = refl
refuses_none BadRow x h = absurd cc

-- what is given is not refused, and so only memory can have run out
pub refuses_given : {Y Z : Type 0} (e : RowFault) (read : Result Y RowFault) (x : Y) (z : Z) → read ≡ Ok x → Refuses e read → Refuses e (Ok z)
refuses_given e read x z is h = refuses_any e x z (subst (Refuses e) is h)

-- a refusal of a step is one of all steps
pub refuses_step : {A B : Type 0} (e : RowFault) (r : Result A RowFault) (f : A → Result B RowFault) → Refuses e r → Refuses e (r >>= f)
refuses_step NoMemory r f h = tt
refuses_step BadRow r f h = ap (λ q. q >>= f) h

-- the same text is no other spelling
pub no_other : (spelled text : List ℕ) (differs : Bool) → differs ≡ not (bytes_eq spelled text) → spelled ≡ text → differs ≡ false
no_other spelled text differs d e = d ∙ ap (λ (s : List ℕ). not (bytes_eq s text)) e ∙ ap not (same_bytes text)

pub same_spelling : (spelled text : List ℕ) (differs : Bool) → differs ≡ not (bytes_eq spelled text) → differs ≡ false → spelled ≡ text
same_spelling spelled text differs d f = (bytes_eq-Decides spelled text).0 (go (bytes_eq spelled text) (sym d ∙ f)) where
  go : (b : Bool) → not b ≡ false → b ≡ true
  go true e = refl
  go false e = absurd cc

-- steps are taken one after the other
pub steps_joined : {A B C : Type 0} (r : Result A RowFault) (f : A → Result B RowFault) (g : B → Result C RowFault) → ((r >>= f) >>= g) ≡ (r >>= λ x. f x >>= g)
steps_joined (Ok x) f g = refl
steps_joined (Err e) f g = refl

-- ---- what was read, if its one spelling is the text

module _ {A : Type 0} (spell : A → List ℕ) (text : List ℕ) (read : Result A RowFault) (x : A) (spelled : List ℕ) (differs : Bool) (is : read ≡ Ok x) (told : spelled ≡ spell x) (d : differs ≡ not (bytes_eq spelled text)) where
  pub spelled_so : differs ≡ false → (read >>= λ y. canonical (spell y) text y) ≡ Ok x
  spelled_so f =
      let same = sym told ∙ same_spelling spelled text differs d f in
      ap (λ r. r >>= λ y. canonical (spell y) text y) is ∙ ap (λ s. canonical s text x) same ∙ canonical_again text x

  pub spelled_other : differs ≡ true → (read >>= λ y. canonical (spell y) text y) ≡ Err BadRow
  spelled_other t = ap (λ r. r >>= λ y. canonical (spell y) text y) is ∙ ap (λ s. canonical s text x) (sym told) ∙ go (bytes_eq spelled text) (sym d ∙ t) where
    go : (b : Bool) → not b ≡ true → cond b (done x) (Err BadRow) ≡ Err BadRow
    go true e = absurd cc
    go false e = refl
