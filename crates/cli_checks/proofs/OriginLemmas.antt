-- Reading the origins of a list line by line.
use Rattle.std.proofs.Common.{◌≡◌, ℕ, ◌+◌, ◌<◌, ◌≤◌, List, [], ◌∷◌, ◌++◌, length, map, drop, get_or, Option, None, Result, Ok, Err, refl, sym, ap, ◌∙◌, subst, append_assoc, append-nil, Bor}
use Rattle.std.specs.Option.{option_to_list}
use Rattle.std.proofs.lemmas.List.{drop_more, drop_all}
use Rattle.cli_core.specs.declared.refusal.Refusal.{Refusal}
use Rattle.cli_core.specs.declared.line_fault.LineFault.{LineFault}
use Rattle.cli_core.specs.declared.line_fault.LineFault.TheVariants.{Refused, ReadFailed, NoMemory}
use Rattle.cli_core.specs.LineFaults.{◌>>=◌, Gives}
use Rattle.cli_checks.specs.OriginLists.{first_word, origin_on, origins_from}

abbrev Origin : Type 0
Origin = List (List ℕ)

abbrev pub texts : List (Bor (List ℕ)) → List (List ℕ)
texts lines = map (λ line. line.now) lines

next : (lines : List (Bor (List ℕ))) (i : ℕ) (line : Bor (List ℕ)) → i < length lines → line ≡ get_or lines i line → texts (drop i lines) ≡ line.now ∷ texts (drop (i + 1) lines)
next lines i line lt is = ap texts (drop_more lines i line lt) ∙ ap (λ (l : Bor (List ℕ)). l.now ∷ texts (drop (i + 1) lines)) (sym is)

-- what is read after these
abbrev with_front : List Origin → Result (List Origin) Refusal → Result (List Origin) Refusal
with_front done rest = rest >>= λ others. Ok (done ++ others)

-- the origins of all lines are those so far, and those of the others
abbrev pub OriginsFrom : List (Bor (List ℕ)) → ℕ → List Origin → Type 0
OriginsFrom lines i origins = origins_from 1 (texts lines) ≡ with_front origins (origins_from (i + 1) (texts (drop i lines)))

front_more : (done more : List Origin) (rest : Result (List Origin) Refusal) → with_front done (rest >>= λ others. Ok (more ++ others)) ≡ with_front (done ++ more) rest
front_more done more (Ok others) = ap (λ (l : List Origin). Ok l) (sym (append_assoc done more others))
front_more done more (Err refusal) = refl

pub origins_first : (lines : List (Bor (List ℕ))) → OriginsFrom lines 0 []
origins_first lines = by (origins_from 1 (texts lines))
  where
    by : (rest : Result (List Origin) Refusal) → rest ≡ with_front [] rest
    by (Ok origins) = refl
    by (Err refusal) = refl

module _ (lines : List (Bor (List ℕ))) (i : ℕ) (origins : List Origin) (line : Bor (List ℕ)) (lt : i < length lines) (is : line ≡ get_or lines i line) (so_far : OriginsFrom lines i origins) where
  abbrev others : Result (List Origin) Refusal
  others = origins_from (i + 1 + 1) (texts (drop (i + 1) lines))

  abbrev here : Result (Option Origin) Refusal
  here = origin_on (i + 1) (first_word line.now)

  this : origins_from 1 (texts lines) ≡ with_front origins (here >>= λ o. others >>= λ os. Ok (option_to_list o ++ os))
  this = so_far ∙ ap (λ (l : List (List ℕ)). with_front origins (origins_from (i + 1) l)) (next lines i line lt is)

  pub origins_more : (origin : Option Origin) → here ≡ Ok origin → OriginsFrom lines (i + 1) (origins ++ option_to_list origin)
  origins_more origin e =
      this
      ∙ ap (λ (r : Result (Option Origin) Refusal). with_front origins (r >>= λ o. others >>= λ os. Ok (option_to_list o ++ os))) e
      ∙ front_more origins (option_to_list origin) others

  pub origins_skip : here ≡ Ok None → OriginsFrom lines (i + 1) origins
  origins_skip e = subst (λ (l : List Origin). OriginsFrom lines (i + 1) l) (append-nil origins) (origins_more None e)

  pub origins_refused : (refusal : Refusal) → here ≡ Err refusal → origins_from 1 (texts lines) ≡ Err refusal
  origins_refused refusal e = this ∙ ap (λ (r : Result (Option Origin) Refusal). with_front origins (r >>= λ o. others >>= λ os. Ok (option_to_list o ++ os))) e

  pub origins_stop : {X Y : Type 0} (seen : Y → Option Origin) (view : X → List Origin) (fault : LineFault) → Gives seen (Err fault) here → Gives view (Err fault) (origins_from 1 (texts lines))
  origins_stop seen view (Refused refusal) given = origins_refused refusal given
  origins_stop seen view NoMemory given = tt
  origins_stop seen view ReadFailed given = absurd given

pub origins_all : (lines : List (Bor (List ℕ))) (i : ℕ) (origins : List Origin) → length lines ≤ i → OriginsFrom lines i origins → origins_from 1 (texts lines) ≡ Ok origins
origins_all lines i origins all so_far =
    so_far ∙ ap (λ (l : List (Bor (List ℕ))). with_front origins (origins_from (i + 1) (texts l))) (drop_all i lines all) ∙ ap (λ (l : List Origin). Ok l) (append-nil origins)
