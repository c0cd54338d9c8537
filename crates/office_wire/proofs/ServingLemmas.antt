-- What was read of a stream, and what was answered to it.
use Rattle.std.proofs.Common.{◌≡◌, ◌≢◌, ◌<◌, ◌≤◌, ◌+◌, length-append, ℕ, true, false, length, List, [], ◌++◌, ◌∷◌, ◌∙◌, sym, ap, refl, subst, arith, append-nil, append_assoc, Option, IfSome, Result, Ok, Err, ◌⊎◌, inl, inr}
use Rattle.std.specs.List.{list_all}
use Rattle.std.specs.Io.KnownBytes.{Appends, Consumes, Keeps, IsAtEnd}
use Rattle.std.proofs.lemmas.List.{nil_from_length}
use Rattle.httparse.specs.Grammar.{print_request}
use Rattle.dns_master.specs.Written.{IsProperPrefix}
use Rattle.dns_master.specs.declared.device.DeviceFailed.{DeviceFailed}
use Rattle.grant_policy.specs.declared.rule.Rule.{Rule}
use Rattle.office_wire.specs.declared.method.Method.{Method}
use Rattle.office_wire.specs.declared.refusal.Refusal.TheVariants.{CutShort}
use Rattle.office_wire.specs.declared.response.Response.TheVariants.{Refused}
use Rattle.office_wire.specs.Texts.{text_of}
use Rattle.office_wire.specs.Exchange.{Turn, texts, Exchange, Waits, nothing, IsMethodAt, Ends, closed, quiet, cut, is_line_end}
use Rattle.office_wire.specs.declared.ending.Ending.TheVariants.{Answered, Overdue}
use Rattle.office_wire.specs.declared.serve_fault.ServeFault.TheVariants.{WriteFailed}
use Rattle.office_wire.specs.Serving.{Mark, Leads, AskedAfter, IsCurrent, IsClosed, IsBroken, IsAnswered, IsCut, IsRead, IsHalted, Finishes}
use Rattle.office_wire.specs.Deadlines.{open_turns, CountsAsked}
use Rattle.office_wire.proofs.DeadlineLemmas.{counts_open, counts_closed, counts_cut}
use Rattle.std.proofs.KnownBytes.{Appends-nil, Appends-trans, Consumes-nil, Consumes-trans, Consumes-kept, Consumes-whole}
use Rattle.office_wire.proofs.KnownLemmas.{on_stream}
use Rattle.office_wire.proofs.TurnLemmas.{head_some}
use Rattle.office_wire.specs.Order.{read, Moment, Writes, WritesAll, Follows, IsServedInTurn}
use Rattle.office_wire.proofs.OrderLemmas.{IsInTurn, nothing_yet, idle_reads, read_next, read_none, written_next, in_turn}
use Rattle.office_wire.proofs.JoinLemmas.{leads_join, three, texts_join, exchange_join, said_join, exchange_more, closes_more, says_more}

too_long : (a b k : ℕ) → a ≡ 0 → a ≡ k + b → 0 < k → ⊥
too_long a b k p q r = omega arith

pub at_least_none : (n : ℕ) → 0 ≤ n
at_least_none n = omega arith

pub at_least_one : (least n : ℕ) → n ≢ 0 → least + 1 ≤ least + n
at_least_one least n some = omega (arith, some)

-- a read that gave nothing
pub none_came : (now old got : List ℕ) (n : ℕ) → now ≡ old ++ got → length got ≡ n → n ≡ 0 → now ≡ old
none_came now old got n e len none = e ∙ ap (λ (l : List ℕ). old ++ l) (nil_from_length got (len ∙ none)) ∙ append-nil old

pub waits_nil : (rest : List ℕ) → length rest ≡ 0 → Waits rest
waits_nil rest none = record {
  more = λ h later reads.
      let some = head_some h in
      let long = ap (λ (l : List ℕ). length l) reads.1 ∙ length-append (print_request h) later in
      absurd (too_long _ _ _ none long some);
  under_way = nothing none;
}

-- the last response of a stream that was cut short
pub finish_so : (rest text : List ℕ) (m : Method) (result : Result (Unit {0}) DeviceFailed) (before now : Moment) → list_all is_line_end rest ≡ false → IsMethodAt rest m
    → text ≡ text_of m (Refused CutShort) true → WritesAll text result before now → Finishes rest result before now
finish_so rest text m (Ok done) before now loud at is wrote = (text, wrote, inr (loud, m, at, is))
finish_so rest text m (Err failed) before now loud at is wrote =
    (loud, m, at, wrote.0, subst (λ (l : List ℕ). IsProperPrefix wrote.0 l) is wrote.1, wrote.2)

module _ (rules : List Rule) (c : Mark) (asked : ℕ) where
  -- turns that were run, and of which P holds
  abbrev pub Ran : Mark → (List Turn → Type 0) → Type 0
  Ran d P = (all : List Turn) × Leads rules c all d × P all

  -- all that was read and is answered, of at least so many octets, each read in turn, and the deadline asked after each response
  abbrev pub IsAnsweredRead : ℕ → Option (List ℕ) → Option (List ℕ) → List ℕ → Moment → Moment → ℕ → Mark → Type 0
  IsAnsweredRead least known left rest before after now d =
      (turns : List Turn) × (got : List ℕ) × Leads rules c turns d × Exchange got turns rest × Appends before.contents after.contents (texts turns)
      × (least ≤ length got) × Consumes known left got × IsInTurn turns got (texts turns) before.events after.events × AskedAfter turns asked now

  -- and what came after these turns
  went_far : (us vs : List Turn) (now later : ℕ) → AskedAfter us asked now → AskedAfter vs now later → AskedAfter (us ++ vs) asked later
  went_far us vs now later first second = omega (arith, first, second, length-append us vs)

  pub sooner : (turns : List Turn) (now later : ℕ) → AskedAfter turns asked now → now < later → asked < later
  sooner turns now later each more = omega (arith, each, more)

  pub first_read : (known : Option (List ℕ)) (rest : List ℕ) (a : Moment) → length rest ≡ 0 → IsAnsweredRead 0 known known rest a a asked c
  first_read known rest a none =
      ([], [], (refl, refl), record { octets_are = sym (nil_from_length rest none); are_open = tt }, Appends-nil a.contents, omega arith, Consumes-nil known, nothing_yet a.events, omega arith)

  -- a read gave octets
  pub went_read : (d : Mark) (least n : ℕ) (now : ℕ) (old new got : List ℕ) (known left left' : Option (List ℕ)) (before mid mid' : Moment) → Waits old → new ≡ old ++ got → length got ≡ n
      → Consumes left left' got → (idle : ℕ) × Follows mid.events mid'.events (idle_reads idle (read got ∷ [])) → mid'.contents ≡ mid.contents
      → IsAnsweredRead least known left old before mid now d → IsAnsweredRead (least + n) known left' new before mid' now d
  went_read d least n now old new got known left left' before mid mid' waits is len more follows same p = (
    p.0,
    p.1 ++ got,
    p.2,
    subst (λ (l : List ℕ). Exchange (p.1 ++ got) p.0 l) (sym is) (exchange_more p.1 old got p.0 p.3),
    subst (λ (o : Option (List ℕ)). Appends before.contents o (texts p.0)) (sym same) p.4,
    (let whole = length-append p.1 got in omega (arith, p.5)),
    Consumes-trans known left left' p.1 got p.6 more,
    read_next p.0 p.1 (texts p.0) old before.events mid.events mid'.events p.3 waits refl p.7 got follows.0 follows.1,
    p.8,
  )

  -- a read failed
  pub went_nowhere : (d : Mark) (least now : ℕ) (rest : List ℕ) (known left left' : Option (List ℕ)) (before mid mid' : Moment) → Waits rest → Keeps left left'
      → (idle : ℕ) × Follows mid.events mid'.events (idle_reads idle []) → mid'.contents ≡ mid.contents
      → IsAnsweredRead least known left rest before mid now d → IsAnsweredRead least known left' rest before mid' now d
  went_nowhere d least now rest known left left' before mid mid' waits kept follows same p = (
    p.0,
    p.1,
    p.2,
    p.3,
    subst (λ (o : Option (List ℕ)). Appends before.contents o (texts p.0)) (sym same) p.4,
    p.5,
    Consumes-kept known left left' p.1 p.6 kept,
    read_none p.0 p.1 (texts p.0) rest before.events mid.events mid'.events p.3 waits refl p.7 follows.0 follows.1,
    p.8,
  )

  -- the stream ended there
  pub ended : (d : Mark) (least now : ℕ) (rest : List ℕ) (known left : Option (List ℕ)) (before mid after : Moment) → IsAtEnd left → Waits rest
      → IsAnsweredRead least known left rest before mid now d
      → ((text : List ℕ) × Writes mid after text × (((list_all is_line_end rest ≡ true) × (text ≡ [])) ⊎ ((list_all is_line_end rest ≡ false) × (m : Method) × IsMethodAt rest m × (text ≡ text_of m (Refused CutShort) true))))
      → Ran d (λ all. IfSome known (λ stream. IsAnswered all stream before.contents after.contents) × IsServedInTurn all before.events after.events × CountsAsked all (Ok Answered) asked now)
  ended d least now rest known left before mid after at_end waits p said =
      let ends : Ends rest [] said.0 = elim said.2 [ inl both ↦ quiet both.0 refl both.1 | inr both ↦ cut both.1 waits both.2 both.0 refl both.3 ] in
      let order = written_next p.0 [] p.1 (texts p.0) said.0 before.events mid.events after.events p.7 said.1.1 in (
        p.0,
        p.2,
        (
          Consumes-whole known left p.1 (λ stream. IsAnswered p.0 stream before.contents after.contents) p.6 at_end
              (p.0, [], rest, said.0, sym (append-nil p.0), p.3, ends, Appends-trans before.contents mid.contents after.contents _ _ p.4 said.1.0),
          subst (λ (l : List Turn). IsServedInTurn l before.events after.events) (append-nil p.0) (in_turn (p.0 ++ []) _ _ before.events after.events order),
          counts_open asked now p.0 p.3.are_open p.8,
        ),
      )

  pub ended_part : (d : Mark) (least now : ℕ) (rest : List ℕ) (known left : Option (List ℕ)) (before mid after : Moment) → IsAtEnd left → Waits rest
      → IsAnsweredRead least known left rest before mid now d
      → ((list_all is_line_end rest ≡ false) × (m : Method) × IsMethodAt rest m × (part : List ℕ) × IsProperPrefix part (text_of m (Refused CutShort) true) × Writes mid after part)
      → Ran d (λ all. IfSome known (λ stream. IsCut all stream before.contents after.contents) × IsServedInTurn all before.events after.events × CountsAsked all (Err WriteFailed) asked now)
  ended_part d least now rest known left before mid after at_end waits p wrote =
      let order = written_next p.0 [] p.1 (texts p.0) wrote.3 before.events mid.events after.events p.7 wrote.5.1 in (
        p.0,
        p.2,
        (
          Consumes-whole known left p.1 (λ stream. IsCut p.0 stream before.contents after.contents) p.6 at_end
              (p.0, [], rest, text_of wrote.1 (Refused CutShort) true, wrote.3, sym (append-nil p.0), p.3, inr (cut wrote.1 waits wrote.2 wrote.0 refl refl), wrote.4, Appends-trans before.contents mid.contents after.contents _ _ p.4 wrote.5.0),
          subst (λ (l : List Turn). IsServedInTurn l before.events after.events) (append-nil p.0) (in_turn (p.0 ++ []) _ _ before.events after.events order),
          (let each = counts_open asked now p.0 p.3.are_open p.8 in (omega (arith, each), omega (arith, each))),
        ),
      )

  -- what had come was answered, up to the last response
  pub went_closed : (d e : Mark) (least now later : ℕ) (new : List ℕ) (known left : Option (List ℕ)) (before mid after : Moment) → IsAnsweredRead least known left new before mid now d
      → IsClosed rules d new mid after now later e
      → Ran e (λ all. IfSome known (λ stream. IsAnswered all stream before.contents after.contents) × IsServedInTurn all before.events after.events × CountsAsked all (Ok Answered) asked later)
  went_closed d e least now later new known left before mid after p q =
      let turns = p.0 ++ q.0 in
      let exchanged = exchange_join p.1 new q.2 p.0 q.0 p.3 q.5 in
      let order = written_next p.0 (q.0 ++ q.1) p.1 (texts p.0) (texts q.0 ++ q.3) before.events mid.events after.events p.7 q.7.1 in (
        turns ++ q.1,
        three rules c p.0 q.0 q.1 d e p.2 q.4,
        (
          on_stream known left p.1 (λ stream. IsAnswered (turns ++ q.1) stream before.contents after.contents) p.6
              (λ rest. (turns, q.1, q.2 ++ rest, q.3, refl, exchange_more _ _ rest _ exchanged, closed (closes_more _ _ rest _ q.6), said_join before.contents mid.contents after.contents p.0 q.0 q.3 p.4 q.7.0)),
          subst (λ (l : List Turn). IsServedInTurn l before.events after.events) (sym (append_assoc p.0 q.0 q.1)) (in_turn (p.0 ++ (q.0 ++ q.1)) _ _ before.events after.events order),
          counts_closed asked later turns exchanged.are_open (went_far p.0 q.0 now later p.8 q.8) q.2 q.3 q.1 q.6,
        ),
      )

  pub went_broken : (d e : Mark) (least now later : ℕ) (new : List ℕ) (known left : Option (List ℕ)) (before mid after : Moment) → IsAnsweredRead least known left new before mid now d
      → IsBroken rules d new mid after now later e
      → Ran e (λ all. IfSome known (λ stream. IsCut all stream before.contents after.contents) × IsServedInTurn all before.events after.events × CountsAsked all (Err WriteFailed) asked later)
  went_broken d e least now later new known left before mid after p q =
      let turns = p.0 ++ q.0 in
      let exchanged = exchange_join p.1 new q.2 p.0 q.0 p.3 q.6 in
      let order = written_next p.0 (q.0 ++ q.1) p.1 (texts p.0) (texts q.0 ++ q.4) before.events mid.events after.events p.7 q.9.1 in (
        turns ++ q.1,
        three rules c p.0 q.0 q.1 d e p.2 q.5,
        (
          on_stream known left p.1 (λ stream. IsCut (turns ++ q.1) stream before.contents after.contents) p.6
              (λ rest. (turns, q.1, q.2 ++ rest, q.3, q.4, refl, exchange_more _ _ rest _ exchanged, inl (says_more _ _ rest _ q.7), q.8, said_join before.contents mid.contents after.contents p.0 q.0 q.4 p.4 q.9.0)),
          subst (λ (l : List Turn). IsServedInTurn l before.events after.events) (sym (append_assoc p.0 q.0 q.1)) (in_turn (p.0 ++ (q.0 ++ q.1)) _ _ before.events after.events order),
          counts_cut asked later turns exchanged.are_open (went_far p.0 q.0 now later p.8 q.10) q.2 q.3 q.1 q.7,
        ),
      )

  -- it was answered, and more may come
  pub went_on : (d e : Mark) (least least' now later : ℕ) (new rest : List ℕ) (known left left' : Option (List ℕ)) (before mid after : Moment) → least' ≤ least → left' ≡ left
      → IsAnsweredRead least known left new before mid now d → IsCurrent rules d new rest mid after now later e → IsAnsweredRead least' known left' rest before after later e
  went_on d e least least' now later new rest known left left' before mid after less same p q =
      let order = written_next p.0 q.0 p.1 (texts p.0) (texts q.0) before.events mid.events after.events p.7 q.3.1 in (
        p.0 ++ q.0,
        p.1,
        leads_join rules c d e p.0 q.0 p.2 q.1,
        exchange_join p.1 new rest p.0 q.0 p.3 q.2,
        subst (λ (l : List ℕ). Appends before.contents after.contents l) (sym (texts_join p.0 q.0)) (Appends-trans before.contents mid.contents after.contents _ _ p.4 q.3.0),
        omega (arith, less, p.5),
        subst (λ (o : Option (List ℕ)). Consumes known o p.1) (sym same) p.6,
        subst (λ (l : List ℕ). IsInTurn (p.0 ++ q.0) p.1 l before.events after.events) (sym (texts_join p.0 q.0)) order,
        went_far p.0 q.0 now later p.8 q.4,
      )

  -- it was answered, and then the deadline had passed
  pub halted : (d : Mark) (least now : ℕ) (rest : List ℕ) (known left : Option (List ℕ)) (before after : Moment) → asked < now → IsAnsweredRead least known left rest before after now d
      → Ran d (λ all. IsHalted all known left before.contents after.contents × IsServedInTurn all before.events after.events × CountsAsked all (Ok Overdue) asked now)
  halted d least now rest known left before after some p = (
    p.0,
    p.2,
    (
      (p.1, rest, omega (arith, some, p.8), p.6, p.3, p.4),
      in_turn p.0 p.1 (texts p.0) before.events after.events p.7,
      counts_open asked now p.0 p.3.are_open p.8,
    ),
  )

  pub stayed : (d : Mark) (least least' now : ℕ) (rest : List ℕ) (known left : Option (List ℕ)) (before after : Moment) → Waits rest → least' ≤ least
      → IsAnsweredRead least known left rest before after now d
      → Ran d (λ all. IsRead least' all known left before.contents after.contents × IsServedInTurn all before.events after.events × (now ≡ asked + length (open_turns all)))
  stayed d least least' now rest known left before after waits less p = (
    p.0,
    p.2,
    (
      (p.1, rest, omega (arith, less, p.5), p.6, waits, p.3, p.4),
      in_turn p.0 p.1 (texts p.0) before.events after.events p.7,
      counts_open asked now p.0 p.3.are_open p.8,
    ),
  )
