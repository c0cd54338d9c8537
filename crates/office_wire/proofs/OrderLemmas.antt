-- What happens on a stream while its requests are answered in turn.
use Rattle.std.proofs.Common.{◌≡◌, ◌<◌, ℕ, zero, suc, List, [], ◌∷◌, ◌++◌, length, take, drop, map, replicate, Option, Some, None, refl, sym, ap, subst, ◌∙◌, arith, append_assoc, append-nil, take-append-drop}
use Rattle.std.specs.Io.KnownBytes.{Appends, Keeps}
use Rattle.std.proofs.KnownBytes.{Appends-nil, Appends-trans, Appends-kept}
use Rattle.dns_master.specs.Written.{IsProperPrefix}
use Rattle.std.specs.List.{flat_map}
use Rattle.std.proofs.lemmas.List.{map-append}
use Rattle.std.proofs.lemmas.Grind.{flat_map-append}
use Rattle.office_wire.specs.Exchange.{Turn, texts, Exchange, Waits}
use Rattle.office_wire.specs.Order.{Event, read, written, Follows, AllAnswered, ReadInTurn, IsServedInTurn, OnlyWrites, Moment, Writes}

-- the octets that these reads gave, and those that these writes took
abbrev pub all_read : List Event → List ℕ
all_read [] = []
all_read (read octets ∷ events) = octets ++ all_read events
all_read (written octets ∷ events) = all_read events

abbrev pub all_written : List Event → List ℕ
all_written [] = []
all_written (read octets ∷ events) = all_written events
all_written (written octets ∷ events) = octets ++ all_written events

-- so far this was received and this sent, each read in turn
abbrev pub IsInTurn : List Turn → List ℕ → List ℕ → Option (List Event) → Option (List Event) → Type 0
IsInTurn turns received sent before now =
    (events : List Event) × Follows before now events × ReadInTurn turns [] [] events × (all_read events ≡ received) × (all_written events ≡ sent)

pub follows_none : {X : Type 0} → (a : Option (List X)) → Follows a a []
follows_none None = tt
follows_none {X} (Some es) = ap (λ (l : List X). let o : Option (List X) = Some l in o) (sym (append-nil es))

pub follows_join : {X : Type 0} → (a b c : Option (List X)) (es fs : List X) → Follows a b es → Follows b c fs → Follows a c (es ++ fs)
follows_join None b c es fs p q = tt
follows_join {X} (Some before) b c es fs p q =
    let r : c ≡ Some ((before ++ es) ++ fs) = subst (λ (o : Option (List X)). Follows o c fs) p q in
    r ∙ ap (λ (l : List X). let o : Option (List X) = Some l in o) (append_assoc before es fs)

read_join : (es fs : List Event) → all_read (es ++ fs) ≡ all_read es ++ all_read fs
read_join [] fs = refl
read_join (read octets ∷ es) fs = ap (λ (l : List ℕ). octets ++ l) (read_join es fs) ∙ sym (append_assoc octets (all_read es) (all_read fs))
read_join (written octets ∷ es) fs = read_join es fs

written_join : (es fs : List Event) → all_written (es ++ fs) ≡ all_written es ++ all_written fs
written_join [] fs = refl
written_join (read octets ∷ es) fs = written_join es fs
written_join (written octets ∷ es) fs = ap (λ (l : List ℕ). octets ++ l) (written_join es fs) ∙ sym (append_assoc octets (all_written es) (all_written fs))

-- pieces of a text
pieces_read : (pieces : List (List ℕ)) → all_read (map written pieces) ≡ []
pieces_read [] = refl
pieces_read (p ∷ pieces) = pieces_read pieces

pieces_written : (pieces : List (List ℕ)) → all_written (map written pieces) ≡ flat_map (λ piece. piece) pieces
pieces_written [] = refl
pieces_written (p ∷ pieces) = ap (λ (l : List ℕ). p ++ l) (pieces_written pieces)

pieces_in_turn : (turns : List Turn) (received sent : List ℕ) (pieces : List (List ℕ)) → ReadInTurn turns received sent (map written pieces)
pieces_in_turn turns received sent [] = tt
pieces_in_turn turns received sent (p ∷ pieces) = pieces_in_turn turns received (sent ++ p) pieces

-- more turns may follow
answered_more : (turns later : List Turn) (received sent : List ℕ) → AllAnswered turns received sent → AllAnswered (turns ++ later) received sent
answered_more turns later received sent p =
    (p.0, p.1 ++ later, p.2, ap (λ (l : List Turn). l ++ later) p.3 ∙ append_assoc p.0 p.1 later, p.4, p.5, p.6)

in_turn_more : (turns later : List Turn) (received sent : List ℕ) (es : List Event) → ReadInTurn turns received sent es → ReadInTurn (turns ++ later) received sent es
in_turn_more turns later received sent [] p = tt
in_turn_more turns later received sent (read octets ∷ es) p = (answered_more turns later received sent p.0, in_turn_more turns later (received ++ octets) sent es p.1)
in_turn_more turns later received sent (written octets ∷ es) p = in_turn_more turns later received (sent ++ octets) es p

-- and more events
in_turn_join : (turns : List Turn) (received sent : List ℕ) (es fs : List Event) → ReadInTurn turns received sent es → ReadInTurn turns (received ++ all_read es) (sent ++ all_written es) fs
    → ReadInTurn turns received sent (es ++ fs)
in_turn_join turns received sent [] fs p q =
    subst (λ (l : List ℕ). ReadInTurn turns received l fs) (append-nil sent) (subst (λ (l : List ℕ). ReadInTurn turns l (sent ++ []) fs) (append-nil received) q)
in_turn_join turns received sent (read octets ∷ es) fs p q =
    (p.0, in_turn_join turns (received ++ octets) sent es fs p.1 (subst (λ (l : List ℕ). ReadInTurn turns l (sent ++ all_written es) fs) (sym (append_assoc received octets (all_read es))) q))
in_turn_join turns received sent (written octets ∷ es) fs p q =
    in_turn_join turns received (sent ++ octets) es fs p (subst (λ (l : List ℕ). ReadInTurn turns (received ++ all_read es) l fs) (sym (append_assoc sent octets (all_written es))) q)

-- ---- one more read, and one more text

pub nothing_yet : (a : Option (List Event)) → IsInTurn [] [] [] a a
nothing_yet a = ([], follows_none a, tt, refl, refl)

-- so many reads that gave nothing, and then these events
abbrev pub idle_reads : ℕ → List Event → List Event
idle_reads idle es = replicate idle (read []) ++ es

idle_read : (idle : ℕ) (es : List Event) → all_read (idle_reads idle es) ≡ all_read es
idle_read zero es = refl
idle_read (suc idle) es = idle_read idle es

idle_written : (idle : ℕ) (es : List Event) → all_written (idle_reads idle es) ≡ all_written es
idle_written zero es = refl
idle_written (suc idle) es = idle_written idle es

idle_in_turn : (turns : List Turn) (received sent : List ℕ) (es : List Event) (idle : ℕ) → AllAnswered turns received sent → ReadInTurn turns received sent es
    → ReadInTurn turns received sent (idle_reads idle es)
idle_in_turn turns received sent es zero up then = then
idle_in_turn turns received sent es (suc idle) up then =
    (up, subst (λ (l : List ℕ). ReadInTurn turns l sent (idle_reads idle es)) (sym (append-nil received)) (idle_in_turn turns received sent es idle up then))

module _ (turns : List Turn) (received sent rest : List ℕ) (a b c : Option (List Event)) (exchanged : Exchange received turns rest) (waits : Waits rest) (said : sent ≡ texts turns)
    (p : IsInTurn turns received sent a b) where
  up_to_here : AllAnswered turns (all_read p.0) (all_written p.0)
  up_to_here = (turns, [], rest, sym (append-nil turns), subst (λ (l : List ℕ). Exchange l turns rest) (sym p.3) exchanged, waits, p.4 ∙ said)

  -- a read, where all whole requests are answered
  pub read_next : (more : List ℕ) (idle : ℕ) → Follows b c (idle_reads idle (read more ∷ [])) → IsInTurn turns (received ++ more) sent a c
  read_next more idle follows =
      let es = p.0 in
      let fs = idle_reads idle (read more ∷ []) in (
        es ++ fs,
        follows_join a b c es fs p.1 follows,
        in_turn_join turns [] [] es fs p.2 (idle_in_turn turns (all_read es) (all_written es) (read more ∷ []) idle up_to_here (up_to_here, tt)),
        read_join es fs ∙ ap (λ (l : List ℕ). all_read es ++ l) (idle_read idle (read more ∷ []) ∙ append-nil more) ∙ ap (λ (l : List ℕ). l ++ more) p.3,
        written_join es fs ∙ ap (λ (l : List ℕ). all_written es ++ l) (idle_written idle (read more ∷ [])) ∙ append-nil (all_written es) ∙ p.4,
      )

  -- reads that gave nothing
  pub read_none : (idle : ℕ) → Follows b c (idle_reads idle []) → IsInTurn turns received sent a c
  read_none idle follows =
      let es = p.0 in
      let fs = idle_reads idle [] in (
        es ++ fs,
        follows_join a b c es fs p.1 follows,
        in_turn_join turns [] [] es fs p.2 (idle_in_turn turns (all_read es) (all_written es) [] idle up_to_here tt),
        read_join es fs ∙ ap (λ (l : List ℕ). all_read es ++ l) (idle_read idle []) ∙ append-nil (all_read es) ∙ p.3,
        written_join es fs ∙ ap (λ (l : List ℕ). all_written es ++ l) (idle_written idle []) ∙ append-nil (all_written es) ∙ p.4,
      )

-- a text that is written, by more turns
pub written_next : (turns later : List Turn) (received sent text : List ℕ) (a b c : Option (List Event)) → IsInTurn turns received sent a b → OnlyWrites text b c
    → IsInTurn (turns ++ later) received (sent ++ text) a c
written_next turns later received sent text a b c p q =
    let es = p.0 in
    let fs = map written q.0 in (
      es ++ fs,
      follows_join a b c es fs p.1 q.1,
      in_turn_join (turns ++ later) [] [] es fs (in_turn_more turns later [] [] es p.2) (pieces_in_turn (turns ++ later) (all_read es) (all_written es) q.0),
      read_join es fs ∙ ap (λ (l : List ℕ). all_read es ++ l) (pieces_read q.0) ∙ append-nil (all_read es) ∙ p.3,
      written_join es fs ∙ ap (λ (l : List ℕ). all_written es ++ l) (pieces_written q.0 ∙ q.2) ∙ ap (λ (l : List ℕ). l ++ text) p.4,
    )

pub in_turn : (turns : List Turn) (received sent : List ℕ) (a b : Option (List Event)) → IsInTurn turns received sent a b → IsServedInTurn turns a b
in_turn turns received sent a b p = (p.0, p.1, p.2)

pub served_none : (a : Option (List Event)) → IsServedInTurn [] a a
served_none a = in_turn [] [] [] a a (nothing_yet a)

-- ---- texts

written_none : (a : Option (List Event)) → OnlyWrites [] a a
written_none a = ([], follows_none a, refl)

written_behind : (first second : List ℕ) (a b c : Option (List Event)) → OnlyWrites first a b → OnlyWrites second b c → OnlyWrites (first ++ second) a c
written_behind first second a b c p q = (
  p.0 ++ q.0,
  subst (Follows a c) (sym (map-append written p.0 q.0)) (follows_join a b c (map written p.0) (map written q.0) p.1 q.1),
  flat_map-append (λ (piece : List ℕ). piece) p.0 q.0 ∙ (λ i. p.2 i ++ q.2 i),
)

-- ---- texts, and what the writer holds

pub Writes-nil : (a : Moment) → Writes a a []
Writes-nil a = (Appends-nil a.contents, written_none a.events)

pub Writes-trans : (a b c : Moment) (first second : List ℕ) → Writes a b first → Writes b c second → Writes a c (first ++ second)
Writes-trans a b c first second p q =
    (Appends-trans a.contents b.contents c.contents first second p.0 q.0, written_behind first second a.events b.events c.events p.1 q.1)

-- pieces were written, after writes that were cut short
idle_pieces : (idle : ℕ) (pieces : List (List ℕ)) → replicate idle (written []) ++ map written pieces ≡ map written (replicate idle [] ++ pieces)
idle_pieces zero pieces = refl
idle_pieces (suc idle) pieces = ap (λ (l : List Event). written [] ∷ l) (idle_pieces idle pieces)

idle_text : (idle : ℕ) (pieces : List (List ℕ)) → flat_map (λ (piece : List ℕ). piece) (replicate idle [] ++ pieces) ≡ flat_map (λ piece. piece) pieces
idle_text zero pieces = refl
idle_text (suc idle) pieces = idle_text idle pieces

all_written_so : (a b : Option (List Event)) (pieces : List (List ℕ)) (text : List ℕ) (idle : ℕ) → flat_map (λ piece. piece) pieces ≡ text
    → Follows a b (replicate idle (written []) ++ map written pieces) → OnlyWrites text a b
all_written_so a b pieces text idle is follows =
    (replicate idle [] ++ pieces, subst (Follows a b) (idle_pieces idle pieces) follows, idle_text idle pieces ∙ is)

-- a prefix of the text was written, and this is left of it
abbrev pub IsLeft : Moment → Moment → List ℕ → List ℕ → Type 0
IsLeft old new text rest = (part : List ℕ) × (text ≡ part ++ rest) × Writes old new part

pub left_whole : (a : Moment) (text : List ℕ) → IsLeft a a text text
left_whole a text = ([], refl, Writes-nil a)

pub left_less : (a b c : Moment) (text rest : List ℕ) (n : ℕ) → IsLeft a b text rest → Appends b.contents c.contents (take n rest)
    → (idle : ℕ) × Follows b.events c.events (replicate idle (written []) ++ written (take n rest) ∷ [])
    → IsLeft a c text (drop n rest)
left_less a b c text rest n left more follows = (
  left.0 ++ take n rest,
  left.1 ∙ ap (λ (xs : List ℕ). left.0 ++ xs) (sym (take-append-drop n rest)) ∙ sym (append_assoc left.0 (take n rest) (drop n rest)),
  Writes-trans a b c left.0 (take n rest) left.2 (more, all_written_so b.events c.events (take n rest ∷ []) (take n rest) follows.0 (append-nil (take n rest)) follows.1),
)

pub left_none : (a b : Moment) (text rest : List ℕ) → IsLeft a b text rest → length rest ≡ 0 → Writes a b text
left_none a b text [] left none = subst (Writes a b) (sym (left.1 ∙ append-nil left.0)) left.2
left_none a b text (x ∷ rest) left none = absurd (omega (arith, none))

pub left_part : (a b c : Moment) (text rest : List ℕ) → IsLeft a b text rest → 0 < length rest → Keeps b.contents c.contents
    → (idle : ℕ) × Follows b.events c.events (replicate idle (written []) ++ [])
    → (part : List ℕ) × IsProperPrefix part text × Writes a c part
left_part a b c text rest left some kept follows =
    let none = written_behind left.0 [] a.events b.events c.events left.2.1 (all_written_so b.events c.events [] [] follows.0 refl follows.1) in (
      left.0,
      record { tail = rest; is = left.1; some = some },
      (Appends-kept a.contents b.contents c.contents left.0 left.2.0 kept, subst (λ (l : List ℕ). OnlyWrites l a.events c.events) (append-nil left.0) none),
    )
