-- The rows at the ends of windows, group by group.
use Rattle.std.proofs.Common.{◌≡◌, ℕ, ◌+◌, ◌%◌, ◌<◌, cond, List, sym, ap, ◌∙◌, inl, inr}
use Rattle.std.specs.Prelude.{◌==◌}
use Rattle.hy_base.specs.declared.layout.Shape.{Shape}
use Rattle.hy_base.specs.declared.record.Row.{Row}
use Rattle.hy_base.specs.Shape.{base_groups, kept_groups}
use Rattle.hy_roll_laws.proofs.Windows.{next_window, opened_base, stayed_base, stayed_kept}

module _ (s : Shape) (n : ℕ) (some : 0 < s.window) (rows_at : ℕ → List Row) where
  -- the last group of a window leaves its own rows
  pub kept_next : (now kept : List Row) → now ≡ rows_at (n + 1) → kept ≡ rows_at (kept_groups s n) → cond ((n + 1) % s.window == 0) now kept ≡ rows_at (kept_groups s (n + 1))
  kept_next now kept is_now is_kept =
      elim (next_window s.window n some) [
        | inl o ↦ ap (λ b. cond b now kept) o.told ∙ (is_now ∙ ap rows_at (sym o.start))
        | inr o ↦ ap (λ b. cond b now kept) o.told ∙ (is_kept ∙ ap rows_at (sym (stayed_kept s n o)))
      ]

  -- and those of the window before become the base
  pub base_next : (kept base : List Row) → kept ≡ rows_at (kept_groups s n) → base ≡ rows_at (base_groups s n) → cond ((n + 1) % s.window == 0) kept base ≡ rows_at (base_groups s (n + 1))
  base_next kept base is_kept is_base =
      elim (next_window s.window n some) [
        | inl o ↦ ap (λ b. cond b kept base) o.told ∙ (is_kept ∙ ap rows_at (sym (opened_base s n o)))
        | inr o ↦ ap (λ b. cond b kept base) o.told ∙ (is_base ∙ ap rows_at (sym (stayed_base s n o)))
      ]
