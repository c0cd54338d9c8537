-- Words that are read, and values that are told apart by a word or a number.
use Rattle.std.proofs.Common.{◌≡◌, ◌↔◌, ℕ, List, Option, Some, None, Result, Ok, Err, refl, sym, ap, ◌∙◌}
use Rattle.std.specs.Bool.{Decides}
use Rattle.std.specs.Result.{result_ok}
use Rattle.dns_data.specs.declared.data_fault.DataFault.{DataFault}
use Rattle.std.proofs.lemmas.Bool.Decides.{Decides-eqb, Decides-like}
use Rattle.std.proofs.lemmas.Slice.Eq.{bytes_eq-Decides}
use Rattle.dns_data.specs.declared.record_type.RecordType.{RecordType}
use Rattle.dns_data.specs.Types.{type_number, IsCalled}
use Rattle.dns_data.proofs.KeptLaws.{one_number, named_called}
use Rattle.grant_policy.specs.declared.action.Action.{Action}
use Rattle.grant_policy.specs.declared.action.Action.TheVariants as action
use Rattle.grant_policy.specs.Words.{action_text, action_of}
use Rattle.grant_policy.specs.Reading.{type_of}
use Rattle.grant_policy.specs.Rules.{same_type, same_action}

same_Some : {T : Type 0} (a b : T) → Some a ≡ Some b → a ≡ b
same_Some a b e = cc

-- ---- actions

pub action_own : (t : Action) → action_of (action_text t) ≡ Some t
action_own action.List = refl
action_own action.Check = refl
action_own action.Add = refl
action_own action.Delete = refl
action_own action.Delegate = refl

pub same_action-Decides : (a b : Action) → Decides (same_action a b) (a ≡ b)
same_action-Decides a b =
    Decides-like _ (λ e. same_Some a b (sym (action_own a) ∙ ap action_of e ∙ action_own b)) (ap action_text) (bytes_eq-Decides (action_text a) (action_text b))

-- ---- types

pub same_type-Decides : (a b : RecordType) → Decides (same_type a b) (a ≡ b)
same_type-Decides a b =
    Decides-like _ (one_number a b) (ap type_number) (Decides-eqb (type_number a) (type_number b))

-- a text is read as the type that it is called
pub type_named : (text : List ℕ) (t : RecordType) → (type_of text ≡ Some t) ↔ IsCalled t text
type_named = named_called

-- what holds the same values is the same
same_options : {T : Type 0} (a b : Option T) → ((t : T) → a ≡ Some t → b ≡ Some t) → ((t : T) → b ≡ Some t → a ≡ Some t) → a ≡ b
same_options None None there back = refl
same_options None (Some y) there back = back y refl
same_options (Some x) b there back = sym (there x refl)

ok_some : {T E : Type 0} (r : Result T E) (t : T) → result_ok r ≡ Some t → r ≡ Ok t
ok_some (Ok x) t e = let f : x ≡ t = cc in ap Ok f
ok_some (Err x) t e = absurd cc

pub type_read : (text : List ℕ) (r : Result RecordType DataFault) → ((t : RecordType) → (r ≡ Ok t) ↔ IsCalled t text) → result_ok r ≡ type_of text
type_read text r found =
    same_options (result_ok r) (type_of text)
    (λ t e. (type_named text t).1 ((found t).0 (ok_some r t e)))
    (λ t e. ap (result_ok {T = RecordType} {E = DataFault}) ((found t).1 ((type_named text t).0 e)))
