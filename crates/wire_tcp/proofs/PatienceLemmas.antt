-- Reads and writes that are begun again where they were cut short.
use Rattle.std.proofs.Common.{◌≡◌, ◌∙◌, ℕ, zero, suc, List, [], ◌∷◌, ◌++◌, replicate, Option, Some, None, Result, Ok, Err, IsErrAnd, refl, ap, subst, append-nil}
use Rattle.std.specs.Io.KnownBytes.{Keeps, Appends, ReadConsumes, WriteAppends}
use Rattle.office_wire.specs.Order.{Event, read, written, Flow, Follows, moved, ReadsOnce, WritesOnce}
use Rattle.office_wire.proofs.OrderLemmas.{follows_none, follows_join}

-- ---- what is known stays

keeps_none : (x : Option (List ℕ)) → Keeps x x
keeps_none None = tt
keeps_none (Some xs) = refl

keeps_join : (x y z : Option (List ℕ)) → Keeps x y → Keeps y z → Keeps x z
keeps_join None y z p q = tt
keeps_join (Some xs) None z p q = absurd p
keeps_join (Some xs) (Some ys) None p q = absurd q
keeps_join (Some xs) (Some ys) (Some zs) p q = q ∙ p

kept_reads : {E : Type 0} → (x y z : Option (List ℕ)) (r : Result ℕ E) (buffer : List ℕ) → Keeps x y → ReadConsumes y z r buffer → ReadConsumes x z r buffer
kept_reads None y z (Ok n) buffer p q = (tt, q.1)
kept_reads None y z (Err e) buffer p q = tt
kept_reads (Some xs) None z r buffer p q = absurd p
kept_reads (Some xs) (Some ys) z r buffer p q = subst (λ (l : List ℕ). ReadConsumes (Some l) z r buffer) p q

kept_writes : {E : Type 0} → (x y z : Option (List ℕ)) (r : Result ℕ E) (octets : List ℕ) → Keeps x y → WriteAppends y z r octets → WriteAppends x z r octets
kept_writes None y z (Ok n) octets p q = tt
kept_writes None y z (Err e) octets p q = tt
kept_writes (Some xs) None z r octets p q = absurd p
kept_writes (Some xs) (Some ys) z r octets p q = subst (λ (l : List ℕ). WriteAppends (Some l) z r octets) p q

-- ---- calls that moved nothing

idle_join : (x : Event) (n m : ℕ) (es : List Event) → (k : ℕ) × (replicate n x ++ (replicate m x ++ es) ≡ replicate k x ++ es)
idle_join x zero m es = (m, refl)
idle_join x (suc n) m es = let all = idle_join x n m es in (suc all.0, ap (λ (l : List Event). x ∷ l) all.1)

-- so far only reads that gave nothing
abbrev pub IdleReads : Flow → Flow → Type 0
IdleReads a b = Keeps a.remaining b.remaining × (b.contents ≡ a.contents) × (n : ℕ) × Follows a.events b.events (replicate n (read []))

-- so far only writes that took nothing
abbrev pub IdleWrites : Flow → Flow → Type 0
IdleWrites a b = Keeps a.contents b.contents × (b.remaining ≡ a.remaining) × (n : ℕ) × Follows a.events b.events (replicate n (written []))

pub no_read : (a : Flow) → IdleReads a a
no_read a = (keeps_none a.remaining, refl, 0, follows_none a.events)

pub no_write : (a : Flow) → IdleWrites a a
no_write a = (keeps_none a.contents, refl, 0, follows_none a.events)

module _ {E : Type 0} (a b c : Flow) (r : Result ℕ E) (octets : List ℕ) where
  -- a read after them
  pub idle_then_read : IdleReads a b → ReadsOnce b c r octets → ReadsOnce a c r octets
  idle_then_read p q = record {
    bytes = kept_reads a.remaining b.remaining c.remaining r octets p.0 q.bytes;
    unwritten = q.unwritten ∙ p.1;
    event =
        let all = idle_join (read []) p.2 q.event.0 (moved read r octets) in
        (all.0, subst (Follows a.events c.events) all.1 (follows_join a.events b.events c.events (replicate p.2 (read [])) _ p.3 q.event.1));
  }

  pub idle_then_write : IdleWrites a b → WritesOnce b c r octets → WritesOnce a c r octets
  idle_then_write p q = record {
    bytes = kept_writes a.contents b.contents c.contents r octets p.0 q.bytes;
    unread = q.unread ∙ p.1;
    event =
        let all = idle_join (written []) p.2 q.event.0 (moved written r octets) in
        (all.0, subst (Follows a.events c.events) all.1 (follows_join a.events b.events c.events (replicate p.2 (written [])) _ p.3 q.event.1));
  }

-- and one that failed
pub idle_again_read : {E : Type 0} → (P : E → Type 0) (a b c : Flow) (r : Result ℕ E) (octets : List ℕ) → IsErrAnd r P → IdleReads a b → ReadsOnce b c r octets → IdleReads a c
idle_again_read P a b c (Ok n) octets is p q = absurd is
idle_again_read P a b c (Err e) octets is p q =
    let all = idle_then_read a b c (Err e) octets p q in
    (all.bytes, all.unwritten, all.event.0, subst (Follows a.events c.events) (append-nil (replicate all.event.0 (read []))) all.event.1)

pub idle_again_write : {E : Type 0} → (P : E → Type 0) (a b c : Flow) (r : Result ℕ E) (octets : List ℕ) → IsErrAnd r P → IdleWrites a b → WritesOnce b c r octets → IdleWrites a c
idle_again_write P a b c (Ok n) octets is p q = absurd is
idle_again_write P a b c (Err e) octets is p q =
    let all = idle_then_write a b c (Err e) octets p q in
    (all.bytes, all.unread, all.event.0, subst (Follows a.events c.events) (append-nil (replicate all.event.0 (written []))) all.event.1)

-- ---- a write that took nothing

kept_by : (x y : Option (List ℕ)) → Appends x y [] → Keeps x y
kept_by None y p = tt
kept_by (Some xs) None p = absurd p
kept_by (Some xs) (Some ys) p = p ∙ append-nil xs

one_idle : (x : Event) (n : ℕ) → replicate n x ++ x ∷ [] ≡ replicate (suc n) x ++ []
one_idle x zero = refl
one_idle x (suc n) = ap (λ (l : List Event). x ∷ l) (one_idle x n)

-- is one that failed
pub took_none : {E F : Type 0} → (a b : Flow) (f : F) (octets : List ℕ) → WritesOnce {E = E} a b (Ok 0) octets → WritesOnce {E = F} a b (Err f) octets
took_none a b f octets q = record {
  bytes = kept_by a.contents b.contents q.bytes;
  unread = q.unread;
  event = (suc q.event.0, subst (Follows a.events b.events) (one_idle (written []) q.event.0) q.event.1);
}
