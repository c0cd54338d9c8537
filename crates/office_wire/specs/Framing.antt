-- What the octets that were received begin with.
use Rattle.std.specs.Prelude.{◌≡◌, ℕ, ◌+◌, ◌<◌, ◌≤◌, List, ◌++◌, length, drop, option_map, IsUtf8}
use Rattle.httparse.specs.Grammar.{RequestHead, ReadsRequest, print_request, HasNoRequest, MayBecomeRequest}
use Rattle.office_wire.specs.declared.length.Ask.TheVariants.{Body, Refused as Refuse}
use Rattle.office_wire.specs.declared.head.Heading.{Heading}
use Rattle.office_wire.specs.declared.head.HeadRead.{HeadRead}
use Rattle.office_wire.specs.declared.head.HeadRead.TheVariants.{Partial, Hopeless, Whole}
use Rattle.office_wire.specs.declared.framing.Framing.{Framing}
use Rattle.office_wire.specs.declared.framing.Framing.TheVariants.{Waiting, Bad, Refused, Ready}
use Rattle.office_wire.specs.Lengths.{method_of, ask_of, BodyUpTo}
use Rattle.office_wire.specs.Requests.{caller_text}
use Rattle.office_wire.specs.Exchange.{IsHead, Waits, NeverHead, closes}

-- what a head asks of the office
pub record IsAsked (g : Heading) (h : RequestHead) : Type 0 where
  pub method : g.method ≡ method_of h.method
  pub target : g.target.now ≡ h.target
  pub target_text : IsUtf8 g.target.now
  pub caller : option_map (λ v. v.now) g.caller ≡ caller_text h

-- what is kept of a head
pub record IsHeading (g : Heading) (h : RequestHead) : Type 0 where
  pub len : g.len ≡ length (print_request h)
  pub ask : g.ask ≡ ask_of h
  pub asked : IsAsked g h
  pub closes : g.closes ≡ closes h

-- what a window of the octets begins with
abbrev pub ReadsHead : List ℕ → HeadRead → Type 0
ReadsHead window Partial = HasNoRequest window × MayBecomeRequest window
ReadsHead window Hopeless = NeverHead window
ReadsHead window (Whole g) = (h : RequestHead) × IsHeading g h × ReadsRequest window h (drop g.len window) × (g.len ≤ length window) × BodyUpTo 65536 g.ask

-- however they go on, the request is incomplete until there are so many octets
abbrev pub WaitsUpTo : List ℕ → ℕ → Type 0
WaitsUpTo bytes n = (more : List ℕ) → length (bytes ++ more) < n → Waits (bytes ++ more)

-- what octets begin with
abbrev pub IsFraming : List ℕ → Framing → Type 0
IsFraming bytes (Waiting n) = Waits bytes × (length bytes < 81920) × WaitsUpTo bytes n × (n ≤ 81920)
IsFraming bytes Bad = NeverHead bytes
IsFraming bytes (Refused m r) =
    (h : RequestHead) × (rest : List ℕ) × IsHead h × (m ≡ method_of h.method) × (ask_of h ≡ Refuse r) × (bytes ≡ print_request h ++ rest)
IsFraming bytes (Ready g n) = (h : RequestHead) × IsHeading g h × IsHead h × (ask_of h ≡ Body n) × (bytes ≡ print_request h ++ drop g.len bytes) × (g.len + n ≤ length bytes)
