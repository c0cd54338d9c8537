-- Serving callers from a store: where it listens, by which policy, and what is written.
use Rattle.std.specs.Prelude.{◌≡◌, ◌⊎◌, ⊤, ℕ, ◌*◌, ◌<◌, List, ◌∷◌, [], ◌++◌, codes, Option, None, option_map, Result, Ok, Err, unwrap_or}
use Rattle.std.specs.Io.KnownBytes.{Appends}
use Rattle.std.specs.Net.Grammar.{IsSocketText}
use Rattle.std.specs.Net.Text.{socket_text}
use Rattle.std.specs.declared.net.socket_addr.SocketAddr.{SocketAddr}
use Rattle.grant_policy.specs.declared.rule.Rule.{Rule}
use Rattle.grant_policy.specs.Documents.{document_of}
use Rattle.grant_policy.specs.Reading.{policy_of}
use Rattle.office_wire.specs.declared.serve_fault.ServeFault.{ServeFault}
use Rattle.store_faults.specs.declared.store_fault.StoreFault.{StoreFault}
use Rattle.wire_tcp.specs.Limits.{Limits, patience_in, longest_in}
use Rattle.wire_tcp.specs.Connections.{Asked, Parties, Writing, AreReported, AreServedFrom}
use Rattle.cli_core.specs.declared.commands.serve.Service.{Service}
use Rattle.cli_core.specs.declared.refusal.Refusal.{Refusal}
use Rattle.cli_core.specs.LineFaults.{◌>>=◌, limited, of_policies, of_store, Makes, GivesOf}
use Rattle.cli_core.specs.declared.line_fault.LineFault.{LineFault}
use Rattle.cli_core.specs.declared.line_fault.LineFault.TheVariants.{Refused, ReadFailed, NoMemory}
use Rattle.cli_core.specs.declared.line_fault.JobFault.{JobFault}
use Rattle.cli_core.specs.declared.line_fault.JobFault.TheVariants.{WriteFailed}
use Rattle.cli_core.specs.Device.{AppendsFront}
use Rattle.cli_core.specs.Replies.{IsRefusalWritten}
use Rattle.sqlite.specs.State.{State as Shown, HasCleanDisk}
use Rattle.office_store.specs.Holds.{HoldsState, LeavesStates}
use Rattle.cli_store.specs.Around.{Around, Callers}
use Rattle.cli_store.specs.Stores.{StoresOf, IsLeft, IsOpened, IsUnopened}

-- what is read of a policy's text: its rules, or a refusal
abbrev pub policy_read : List ℕ → Result (List Rule) Refusal
policy_read input = limited input >>= λ text. of_policies (policy_of (document_of text))

-- how many connections are served: without a number, as many as a number of 64 bits can say
abbrev pub most_of : Service → ℕ
most_of service = unwrap_or service.connections 18446744073709551615

-- ---- a service

-- where it listens
abbrev pub listening_line : SocketAddr → List ℕ
listening_line address = codes "listening " ++ socket_text address ++ 10 ∷ []

-- the listener was had at the address that the word is, and listens at this one
abbrev pub IsHeard : {H : Type 0} → Around H → List ℕ → H → SocketAddr → Type 0
IsHeard a listen listener address = (asked : SocketAddr) × IsSocketText listen asked × a.heard asked listener address

-- the address is one, and there can be no listener at it
abbrev pub IsUnheard : {H : Type 0} → Around H → List ℕ → Type 0
IsUnheard a listen = (address : SocketAddr) × IsSocketText listen address × a.unheard address

-- why there is no listener: the word is no address, there can be none at it, or memory ran out
abbrev pub IsNoListener : {H : Type 0} → Around H → List ℕ → LineFault → Type 0
IsNoListener a listen (Refused refusal) = ⊥
IsNoListener a listen ReadFailed = ((address : SocketAddr) → ¬ IsSocketText listen address) ⊎ IsUnheard a listen
IsNoListener a listen NoMemory = Unit {0}

-- ---- from a store

-- a store's table: the connection to it, how many of its calls have failed, and why the last of them did
pub record TableAt (C : Type 0) : Type 0 where
  pub conn : C
  pub failures : ℕ
  pub fault : Option StoreFault

-- who calls, and the table that is asked: it holds the state that its connection shows, and a crash leaves what it leaves of that
abbrev pub parties_of : {C H P : Type 0} → (C → Shown) → Callers H P → Parties (TableAt C) H P
parties_of shows p = record {
  holds = λ t. HoldsState (shows t.conn);
  leaves = λ t. LeavesStates (shows t.conn);
  failures = λ t. t.failures;
  fault = λ t. t.fault;
  gives = p.gives;
  ends = p.ends;
  flow = p.flow;
  times = p.times;
}

-- for how long the words let a peer be waited for, and how old a connection get, in nanoseconds
abbrev pub limits_by : Service → Limits
limits_by service = record {
  patience = option_map (λ n. n * 1000000000) (patience_in service.patience);
  longest = option_map (λ n. n * 1000000000) (longest_in service.longest);
}

-- what the words ask for: so many connections, answered by these rules, within these limits
abbrev pub asked_by : Service → List Rule → Type 0 → Asked
asked_by service rules cut = record {
  rules = rules;
  limits = limits_by service;
  most = most_of service;
  cut = cut;
}

-- What is around, the word that says where to listen, how many connections are asked for, when a listener has no further one, that nothing
-- was done, that connections of a listener were served (what the writer held then, and the listener before and after), what the writer held
-- before and after, the answer, and the writer's failures before and after. The line of why there is no listener is written, and nothing is
-- done; or the line of the address at which a listener was had that the word asks for, and then its connections were served, and their
-- lines are written: fewer than asked for only where that listener has no further one.
abbrev pub IsServiceTold : {H : Type 0} → Around H → List ℕ → ℕ → (H → Type 0) → Type 0 → (Option (List ℕ) → H → H → Type 0) → Option (List ℕ) → Option (List ℕ) → Result (Unit {0}) JobFault → ℕ → ℕ → Type 0
IsServiceTold {H} a listen most cut idle served old new result before after =
    ((fault : LineFault) × IsNoListener a listen fault × IsRefusalWritten old new fault result before after × idle)
    ⊎ ((listener : H) × (address : SocketAddr) × IsHeard a listen listener address
    × (((result ≡ Err WriteFailed) × AppendsFront old new (listening_line address) × (before < after) × idle)
    ⊎ ((mid : Option (List ℕ)) × Appends old mid (listening_line address)
    × ((ends : List (Option ServeFault)) × AreReported (cut listener) most ends mid new result before after)
    × (listener_after : H) × served mid listener listener_after)))

-- What connections show, what is around, who calls, the words, the rules, the connection to the store when it was opened and when it is
-- handed back, what was written, the answer, and what was written of failures. Whatever connections come: where the store has kept its
-- word, they were served from this store by these rules, one after the other; or it is as it was.
pub record IsServedBy {C H P : Type 0} (shows : C → Shown) (a : Around H) (p : Callers H P) (service : Service) (rules : List Rule) (now after : C) (o : Writing) (result : Result (Unit {0}) JobFault) (t : Writing) : Type 0 where
  pub honest : HasCleanDisk (shows after) → HasCleanDisk (shows now)
  pub before : TableAt C
  pub before_is : before.conn ≡ now
  pub left : TableAt C
  pub left_is : left.conn ≡ after
  pub told : IsServiceTold a service.listen.now (most_of service) p.cut ((after ≡ now) × (t.new ≡ t.old) × (t.after ≡ t.before))
      (λ mid listener listener_after. HasCleanDisk (shows after) → AreServedFrom (parties_of shows p) (asked_by service rules (p.cut listener)) before listener left listener_after result
      (record { old = mid; new = o.new; before = o.before; after = o.after }) t)
      o.old o.new result o.before o.after

-- The stores of paths, the words, the rules, the connection that is handed back, and the rest as above: the store of the path is refused,
-- and that is told; or it is opened, and connections are served from it by these rules.
abbrev pub BeginsBy : {C H P : Type 0} → Around H → Callers H P → StoresOf C → Service → List Rule → Option C → Writing → Result (Unit {0}) JobFault → Writing → Type 0
BeginsBy {C} a p s service rules left o result t =
    ((refusal : StoreFault) × IsUnopened s.shows (s.finds service.store.now) (s.refuses service.store.now) (s.connects service.store.now) left refusal
    × IsRefusalWritten o.old o.new (of_store refusal) result o.before o.after × (t.new ≡ t.old) × (t.after ≡ t.before))
    ⊎ ((now : C) × IsOpened s.shows (s.connects service.store.now) now
    × IsLeft left (λ then. IsServedBy s.shows a p service rules now then o result t))

-- The same with the policy read first: it is refused, or not read, and that is reported, with no store touched; or its rules were read.
abbrev pub Serves : {C H P : Type 0} → Around H → Callers H P → StoresOf C → Service → Option C → Writing → Result (Unit {0}) JobFault → Writing → Type 0
Serves a p s service left o result t =
    ((fault : LineFault) × GivesOf {X = List Rule} (λ rules. rules) (a.file service.policy.now) policy_read (Err fault) ⊤ (a.unreadable service.policy.now)
    × IsRefusalWritten o.old o.new fault result o.before o.after × (left ≡ None) × (t.new ≡ t.old) × (t.after ≡ t.before))
    ⊎ ((rules : List Rule) × Makes (a.file service.policy.now) policy_read (Ok rules)
    × BeginsBy a p s service rules left o result t)
