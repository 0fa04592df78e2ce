-- What a stop leaves of an append.
use Rattle.std.proofs.Common.{◌≡◌, ◌≢◌, ◌⊎◌, inl, inr, ◌∙◌, ℕ, ◌+◌, ◌-◌, ◌*◌, ◌<◌, ◌≤◌, Bool, true, false, List, [], ◌∷◌, ◌++◌, length, Some, None, ap, sym, subst, arith}
use Rattle.std.specs.Prelude.{Result, Ok, Err, is_ok, nat_le, ◌==◌, ◌&&◌, replicate, if◌then◌else◌}
use Rattle.std.proofs.lemmas.List.{append-nil}
use Rattle.std.proofs.lemmas.Bool.{cases_lt, cases_eq}
use Rattle.std.proofs.Math.Bool.{and-false}
use Rattle.hy_base.specs.declared.layout.Shape.{Shape}
use Rattle.hy_base.specs.declared.workload.ArmedStop.{ArmedStop}
use Rattle.hy_formats.specs.declared.header.Header.{Header}
use Rattle.hy_rules.specs.Moves.{is_kept}
use Rattle.hy_disk.specs.Content.{Content}
use Rattle.hy_disk.specs.Stops.{stopped}
use Rattle.hy_log.specs.declared.log.AppendError.{AppendError}
use Rattle.hy_log.specs.declared.log.AppendError.TheVariants as appending
use Rattle.hy_log.specs.View.{LogView, header_of}
use Rattle.hy_formats.specs.LogFormat.{page_count, places_of, uncut}
use Rattle.hy_formats.specs.LogDevice.{Holds}
use Rattle.hy_mem.specs.declared.memory.MemDisk.{MemDisk}
use Rattle.hy_mem.specs.MemDisk.{HasRoom, ArmedAt}
use Rattle.hy_mem.specs.RoomLaws.{room_shrinks}
use Rattle.hy_memlog.specs.Pages.{IsStop, HasRoomFor, with_body}

abbrev pub Appended : Type 0
Appended = Result ℕ AppendError

-- The append has failed, and the stop leaves the bodies before, or these and the new one, as it keeps it.
pub record IsStoppedIn (header : Header) (bodies : List (List ℕ)) (body : List ℕ) (stop : ArmedStop) (result : Appended) (content : Content) : Type 0 where
  pub failed : result ≡ Err appending.Device
  pub left : Holds header (with_body (Some stop) 1 body bodies) (stopped stop.pattern content)

-- in one of the first two calls
abbrev pub Behind : Header → List (List ℕ) → Appended → Content → Type 0
Behind header bodies result content = (result ≡ Err appending.Device) × ((pattern : ℕ) → Holds header bodies (stopped pattern content))

-- in one of the last two
abbrev pub AtGate : Header → List (List ℕ) → List ℕ → Appended → Content → Type 0
AtGate header bodies body result content =
    (result ≡ Err appending.Device) × ((pattern : ℕ) → pattern ≢ 1 → Holds header bodies (stopped pattern content)) × Holds header (bodies ++ body ∷ []) (stopped 1 content)

by_kept : (stop : ArmedStop) (kept : Bool) (body : List ℕ) (bodies : List (List ℕ)) → is_kept stop ≡ kept → with_body (Some stop) 1 body bodies ≡ bodies ++ replicate (if kept then 1 else 0) body
by_kept stop kept body bodies is = ap (λ (b : Bool). bodies ++ replicate (if b then 1 else 0) body) is

dropped : (stop : ArmedStop) (body : List ℕ) (bodies : List (List ℕ)) → is_kept stop ≡ false → bodies ≡ with_body (Some stop) 1 body bodies
dropped stop body bodies is = sym (by_kept stop false body bodies is ∙ append-nil bodies)

kept : (stop : ArmedStop) (body : List ℕ) (bodies : List (List ℕ)) → is_kept stop ≡ true → bodies ++ body ∷ [] ≡ with_body (Some stop) 1 body bodies
kept stop body bodies is = sym (by_kept stop true body bodies is)

pub stopped_in : (header : Header) (bodies : List (List ℕ)) (body : List ℕ) (stop : ArmedStop) (result : Appended) (content : Content) → IsStop stop
    → (stop.call ≤ 2 → Behind header bodies result content) → (3 ≤ stop.call → AtGate header bodies body result content) → IsStoppedIn header bodies body stop result content
stopped_in header bodies body stop result content is behind gate = elim (cases_lt stop.call 3) [
  | inl early ↦
      let b : Behind header bodies result content = behind (omega (arith, early)) in
      let no : is_kept stop ≡ false = early_drops stop early in
      record { failed = b.0; left = subst (λ (bs : List (List ℕ)). Holds header bs (stopped stop.pattern content)) (dropped stop body bodies no) (b.1 stop.pattern) }
  | inr late ↦ at_gate (gate (omega (arith, late))) (omega (arith, late)) (cases_eq stop.pattern 1)
]
  where
    early_drops : (s : ArmedStop) → s.call < 3 → is_kept s ≡ false
    early_drops s early = let no : nat_le 3 s.call ≡ false = grind (arith, early) in ap (λ (b : Bool). b && (s.pattern == 1)) no

    late_keeps : (s : ArmedStop) → 3 ≤ s.call → s.pattern ≡ 1 → is_kept s ≡ true
    late_keeps s late one =
        let yes : nat_le 3 s.call ≡ true = grind (arith, late) in
        let same : (s.pattern == 1) ≡ true = grind (arith, one) in
        ap (λ (b : Bool). b && (s.pattern == 1)) yes ∙ same

    late_drops : (s : ArmedStop) → s.pattern ≢ 1 → is_kept s ≡ false
    late_drops s other =
        let no : (s.pattern == 1) ≡ false = grind (arith, other) in
        ap (λ (b : Bool). nat_le 3 s.call && b) no ∙ and-false (nat_le 3 s.call)

    at_gate : AtGate header bodies body result content → 3 ≤ stop.call → (stop.pattern ≡ 1) ⊎ (stop.pattern ≢ 1) → IsStoppedIn header bodies body stop result content
    at_gate g late (inl one) = record {
      failed = g.0;
      left = subst (λ (bs : List (List ℕ)). Holds header bs (stopped stop.pattern content)) (kept stop body bodies (late_keeps stop late one))
          (subst (λ (n : ℕ). Holds header (bodies ++ body ∷ []) (stopped n content)) (sym one) g.2);
    }
    at_gate g late (inr other) = record {
      failed = g.0;
      left = subst (λ (bs : List (List ℕ)). Holds header bs (stopped stop.pattern content)) (dropped stop body bodies (late_drops stop other)) (g.1 stop.pattern other);
    }

-- ---- an append on a device on which a call was ordered to fail

-- the log as it was, but for the order
abbrev pub IsSame : LogView MemDisk → LogView MemDisk → Type 0
IsSame armed log = armed ≡ record log { disk = armed.disk }

-- the append's clauses on the order
abbrev pub WhereOrdered : LogView MemDisk → ℕ → ℕ → ℕ → Type 0 → Type 0
WhereOrdered armed size low high P =
    length armed.bodies ≢ places_of (header_of armed) → armed.stopped ≡ None → (k : ℕ) → low ≤ k → k ≤ high → ArmedAt armed.disk k → HasRoom armed.disk (k - 1) (1 + 256 * page_count size) → P

pub stop_leaves : (log armed : LogView MemDisk) (body : List ℕ) (stop : ArmedStop) (call : ℕ) (result : Appended) (content : Content)
    → HasRoomFor (length body) 1 log → length log.bodies < log.shape.cap → IsStop stop → call ≡ stop.call → IsSame armed log → ArmedAt armed.disk call
    → ((b : ℕ) → HasRoom log.disk call b → HasRoom armed.disk (call - 1) b)
    → WhereOrdered armed (length body) 1 2 (Behind (header_of armed) armed.bodies result content)
    → WhereOrdered armed (length body) 3 4 (AtGate (header_of armed) armed.bodies body result content)
    → IsStoppedIn (uncut log.shape) log.bodies body stop result content
stop_leaves log armed body stop call result content ready some is_stop is same armed_at room behind gate =
    let pages : ℕ = 1 + 256 * page_count (length body) in
    let shape : armed.shape ≡ log.shape = ap (λ (v : LogView MemDisk). v.shape) same in
    let from : armed.from ≡ 0 = ap (λ (v : LogView MemDisk). v.from) same ∙ ready.steady.whole in
    let header : header_of armed ≡ uncut log.shape = λ i. record { shape = shape i; from = from i } in
    let bodies : armed.bodies ≡ log.bodies = ap (λ (v : LogView MemDisk). v.bodies) same in
    let more : length armed.bodies ≢ places_of (header_of armed) = λ full. omega (arith, full, some, ap length bodies, ap (λ (s : Shape). s.cap) shape) in
    let running : armed.stopped ≡ None = ap (λ (v : LogView MemDisk). v.stopped) same ∙ ready.steady.running in
    let least : 1 ≤ call = omega (arith, is, is_stop.call.at_least) in
    let most : call ≤ 4 = omega (arith, is, is_stop.call.at_most) in
    let left : HasRoom armed.disk (call - 1) pages = room pages (room_shrinks log.disk call (4 * 1) pages (1 * (1 + 256 * page_count (length body))) ready.pages (omega (arith, most)) (omega arith)) in
    subst (λ (k : Header × List (List ℕ)). IsStoppedIn k.0 k.1 body stop result content) (λ i. (header i, bodies i))
    (stopped_in (header_of armed) armed.bodies body stop result content is_stop
    (λ early. behind more running call least (omega (arith, is, early)) armed_at left)
    (λ late. gate more running call (omega (arith, is, late)) most armed_at left))

pub not_ok : {A : Type 0} (r : Appended) → r ≡ Err appending.Device → is_ok r ≡ true → A
not_ok (Ok at) is ok = absurd (cc)
not_ok (Err e) is ok = absurd (cc)
