-- What is noted of turns, one after the other.
use Rattle.std.proofs.Common.{◌≡◌, ◌+◌, ◌-◌, ◌^◌, ◌≤◌, min, List, [], ◌∷◌, ◌++◌, length, refl, sym, ap, ◌∙◌, arith, append-nil}
use Rattle.std.specs.List.{last_or}
use Rattle.std.proofs.lemmas.Grind.{flat_map-append}
use Rattle.office_model.specs.declared.table_fault.TableFault.{TableFault}
use Rattle.office_wire.specs.declared.response.Response.{Response}
use Rattle.office_wire.specs.declared.servfails.Servfails.{Servfails}
use Rattle.office_wire.specs.Exchange.{Turn}
use Rattle.office_wire.specs.Servfails.{servfail_in, servfails, noted, none_noted, one_more, AreNoted}

noted_join : (note : Servfails) (xs ys : List TableFault) → noted note (xs ++ ys) ≡ noted (noted note xs) ys
noted_join note [] ys = refl
noted_join note (x ∷ xs) ys = noted_join (one_more note x) xs ys

pub servfails_join : (a b c : Servfails) (ts us : List Turn) → b ≡ noted a (servfails ts) → c ≡ noted b (servfails us) → c ≡ noted a (servfails (ts ++ us))
servfails_join a b c ts us p q =
    q ∙ ap (λ (n : Servfails). noted n (servfails us)) p ∙ sym (noted_join a (servfails ts) (servfails us))
    ∙ ap (noted a) (sym (flat_map-append (λ (t : Turn). servfail_in t.response) ts us))

-- one turn is noted as its response is
pub one_noted : (note : Servfails) (t : Turn) (response : Response) → t.response ≡ response → noted note (servfail_in response) ≡ noted note (servfails (t ∷ []))
one_noted note t response said = ap (noted note) (ap servfail_in (sym said) ∙ sym (append-nil (servfail_in t.response)))

-- ---- how many, and the last

count_of : (note : Servfails) (xs : List TableFault) → note.count ≤ 2 ^ 64 - 1 → (noted note xs).count ≡ min (note.count + length xs) (2 ^ 64 - 1)
count_of note [] small = omega (arith, small)
count_of note (x ∷ xs) small =
    let less : min (note.count + 1) (2 ^ 64 - 1) ≤ 2 ^ 64 - 1 = omega arith in
    let rest = count_of (one_more note x) xs less in
    omega (arith, rest)

last_of : (note : Servfails) (xs : List TableFault) → (noted note xs).last ≡ last_or note.last xs
last_of note [] = refl
last_of note (x ∷ xs) = last_of (one_more note x) xs

pub noted_first : (note : Servfails) (xs : List TableFault) → note ≡ noted none_noted xs → AreNoted xs note
noted_first note xs e = record {
  count = ap (λ (n : Servfails). n.count) e ∙ (let all = count_of none_noted xs (omega arith) in omega (arith, all));
  last = ap (λ (n : Servfails). n.last) e ∙ last_of none_noted xs;
}
