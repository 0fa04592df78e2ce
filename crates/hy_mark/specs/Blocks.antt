-- Blocks of keys: each has as many keys as a power of two, and begins at a multiple of that.
use Rattle.std.specs.Prelude.{◌≡◌, ℕ, ◌+◌, ◌%◌, ◌^◌, ◌<◌, ◌≤◌, List, [], ◌∷◌, length}
use Rattle.std.specs.List.{AllByRecursion, list_any}
use Rattle.hy_base.specs.declared.record.Span.{Span}
use Rattle.hy_base.specs.Entry.{is_in_span}

pub record IsBlock (block : Span) : Type 0 where
  pub bits : ℕ
  pub aligned : block.lo % 2 ^ bits ≡ 0
  pub size : block.hi + 1 ≡ block.lo + 2 ^ bits

-- each ends before all later ones begin
abbrev pub AreApart : List Span → Type 0
AreApart [] = Unit {0}
AreApart (b ∷ bs) = AllByRecursion (λ c. b.hi < c.lo) bs × AreApart bs

-- few blocks, in order and apart, with just the keys of the span
pub record IsCover (span : Span) (blocks : List Span) : Type 0 where
  pub few : length blocks ≤ 128
  pub each : AllByRecursion IsBlock blocks
  pub apart : AreApart blocks
  pub union : (key : ℕ) → list_any (is_in_span key) blocks ≡ is_in_span key span
