-- Steps that may be refused: what they went through where they gave a value.
use Rattle.std.proofs.Common.{◌≡◌, Bool, true, false, cond, Result, Ok, Err, refl}
use Rattle.dns_names.specs.declared.name_fault.NameFault.{NameFault}
use Rattle.dns_data.specs.declared.data_fault.DataFault.{DataFault}
use Rattle.dns_data.specs.Faults.{◌>>=◌, of_names}

-- the value of a step that did not fail
pub bind_ok : {A B : Type 0} (r : Result A DataFault) (f : A → Result B DataFault) (y : B) → (r >>= f) ≡ Ok y → (x : A) × (r ≡ Ok x) × (f x ≡ Ok y)
bind_ok (Ok x) f y e = (x, refl, e)
bind_ok (Err d) f y e = absurd cc

-- a test that did not fail
pub guard_ok : {A : Type 0} (b : Bool) (d : DataFault) (x y : A) → cond b (Err d) (Ok x) ≡ Ok y → (b ≡ false) × (x ≡ y)
guard_ok true d x y e = absurd cc
guard_ok false d x y e = (refl, cc)

-- a step after a test that did not fail
pub guarded_ok : {A : Type 0} (b : Bool) (d : DataFault) (r : Result A DataFault) (y : A) → cond b (Err d) r ≡ Ok y → (b ≡ false) × (r ≡ Ok y)
guarded_ok true d r y e = absurd cc
guarded_ok false d r y e = (refl, e)

-- a test that had to hold
pub needed_ok : {A : Type 0} (b : Bool) (d : DataFault) (r : Result A DataFault) (y : A) → cond b r (Err d) ≡ Ok y → (b ≡ true) × (r ≡ Ok y)
needed_ok true d r y e = (refl, e)
needed_ok false d r y e = absurd cc

-- a result with a value
abbrev pub done : {A : Type 0} → A → Result A DataFault
done x = Ok x

-- the value of a result
pub ok_is : {A : Type 0} (x y : A) → done x ≡ done y → x ≡ y
ok_is x y e = cc

-- the value of a step of names
pub of_names_ok : {A : Type 0} (r : Result A NameFault) (x : A) → of_names r ≡ Ok x → r ≡ Ok x
of_names_ok (Ok y) x e = cc
of_names_ok (Err f) x e = absurd cc

-- and the step of a value
pub of_names_again : {A : Type 0} (r : Result A NameFault) (x : A) → r ≡ Ok x → of_names r ≡ Ok x
of_names_again r x e = rw e refl
