-- A device over a call: what it held and holds, what a crash leaves of it, and whether it failed.
use Rattle.std.specs.Prelude.{◌≡◌, ℕ, Bool, IsTrue, List}
use Rattle.hy_base.specs.Faults.{Rose}
use Rattle.hy_disk.specs.Content.{Content, Image, settled}

-- Whether it tells its bytes; what it held before the call, and what it holds now; what a crash at some moment of the call
-- might have left; its count of faults before and now; and that no call was made on it.
pub record Over : Type 1 where
  pub tells : Bool
  pub before : Content
  pub now : Content
  pub crashes : List ℕ → Type 0
  pub faults : ℕ
  pub faults_now : ℕ
  pub uncalled : Type 0

abbrev pub over : {D : Type 0} → Bool → (D → Content) → (D → ℕ) → (D → ℕ → List ℕ → Type 0) → (D → ℕ) → D → D → Over
over tells content moment left_since faults_of old new = record {
  tells = tells;
  before = content old;
  now = content new;
  crashes = left_since new (moment old);
  faults = faults_of old;
  faults_now = faults_of new;
  uncalled = new ≡ old;
}

-- its count of faults rose
abbrev pub HasFailed : Over → Type 0
HasFailed d = Rose d.faults d.faults_now

-- a crash now leaves only bytes that have P
abbrev pub LeavesNow : Over → (List ℕ → Type 0) → Type 0
LeavesNow d P = IsTrue d.tells → (image : List ℕ) → Image d.now image → P image

-- and a crash at any moment of the call, if nothing was pending when it began
abbrev pub LeavesEver : Over → (List ℕ → Type 0) → Type 0
LeavesEver d P = IsTrue d.tells → d.before ≡ settled d.before.seen → (image : List ℕ) → d.crashes image → P image

-- It was only read: it holds what it held, and a crash leaves what a crash before the call leaves.
pub record IsOnlyRead (d : Over) : Type 0 where
  pub same : d.now ≡ d.before
  pub quiet : (image : List ℕ) → d.crashes image → Image d.before image
