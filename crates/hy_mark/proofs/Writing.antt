-- Rows put in place among others.
use Rattle.std.proofs.Common.{◌≡◌, ℕ, ◌<◌, List, [], ◌∷◌, ◌++◌, append_assoc, refl, sym, ap, ◌∙◌, arith}
use Rattle.std.proofs.lemmas.Bool.{lt-ltb, le-ltb}
use Rattle.std.proofs.lemmas.List.{append-nil, map-append}
use Rattle.hy_base.specs.declared.record.Row.{Row}
use Rattle.hy_base.specs.Lists.{put}
use Rattle.hy_base.specs.declared.record.Write.{Write}
use Rattle.hy_base.specs.Rows.{Each, IsOrdered, row_before, applied, newest, rows_at}
use Rattle.hy_base.proofs.RowLemmas.{newest-append, put_first}
use Rattle.hy_base.proofs.ListLemmas.{all_map, all_right}
use Rattle.hy_mark.specs.Orders.{IsFirstRow}

-- a first row stays first
pub applied_first : (x : Row) (rs ws : List Row) → Each (λ w. x.key < w.key) ws → applied (x ∷ rs) ws ≡ x ∷ applied rs ws
applied_first x rs [] a = refl
applied_first x rs (w ∷ ws) a =
    let e : put row_before w (x ∷ rs) ≡ x ∷ put row_before w rs = rw (le-ltb w.key x.key (omega (arith, a.0)), lt-ltb x.key w.key a.0) refl in
    rw e (applied_first x (put row_before w rs) ws a.1)

-- rows in order, put in place among none
pub newest_same : (ws : List Row) → IsOrdered ws → applied [] ws ≡ ws
newest_same [] o = refl
newest_same (w ∷ ws) o = applied_first w [] ws o.0 ∙ ap (λ (rs : List Row). w ∷ rs) (newest_same ws o.1)

-- the rows that come after the first
pub after_first : (x y : Row) (ys right : List Row) → right ≡ y ∷ ys → IsOrdered right → x.key < y.key → Each (λ w. x.key < w.key) right
after_first x y ys right e o lt = let p = rw e at o in rw e (lt, all_map (λ (w : Row). y.key < w.key) (λ w. x.key < w.key) (λ w h. omega arith) ys p.0)

pub left_first : (x : Row) (xs left right : List Row) → left ≡ x ∷ xs → IsOrdered left → IsOrdered right → Each (λ w. x.key < w.key) right → IsFirstRow left right x xs right
left_first x xs left right e ol or a =
    let p = rw e at ol in
    record { rows = rw e (applied_first x xs right a); left_ordered = p.1; right_ordered = or; shorter = rw e (omega arith) }

pub right_first : (y : Row) (ys left right : List Row) → right ≡ y ∷ ys → IsOrdered left → IsOrdered right → Each (λ x. y.key < x.key) left → IsFirstRow left right y left ys
right_first y ys left right e ol or a =
    let p = rw e at or in
    record { rows = rw (e, put_first y left a) (applied_first y left ys p.0); left_ordered = ol; right_ordered = p.1; shorter = rw e (omega arith) }

pub both_first : (x y : Row) (xs ys left right : List Row) → left ≡ x ∷ xs → right ≡ y ∷ ys → x.key ≡ y.key → IsOrdered left → IsOrdered right → IsFirstRow left right y xs ys
both_first x y xs ys left right e f same ol or =
    let p = rw e at ol in
    let q = rw f at or in
    let in_place : put row_before y (x ∷ xs) ≡ y ∷ xs = rw (le-ltb y.key x.key (omega arith), le-ltb x.key y.key (omega arith)) refl in
    record { rows = rw (e, f, in_place) (applied_first y xs ys q.0); left_ordered = p.1; right_ordered = q.1; shorter = rw (e, f) (omega arith) }

-- ---- the loop

-- the rows so far, with what is left of both lists
pub record Places (whole_left whole_right rows left right : List Row) : Type 0 where
  pub all : rows ++ applied left right ≡ applied whole_left whole_right
  pub left_ordered : IsOrdered left
  pub right_ordered : IsOrdered right

pub places_more : {wl wr rs l r l' r' : List Row} (x : Row) → Places wl wr rs l r → IsFirstRow l r x l' r' → Places wl wr (rs ++ x ∷ []) l' r'
places_more {wl} {wr} {rs} {l} {r} {l'} {r'} x p f = record {
  all = append_assoc rs (x ∷ []) (applied l' r') ∙ (ap (λ (ys : List Row). rs ++ ys) (sym f.rows) ∙ p.all);
  left_ordered = f.left_ordered;
  right_ordered = f.right_ordered;
}

pub places_all : {wl wr rs l r : List Row} → Places wl wr rs l r → l ≡ [] → r ≡ [] → rs ≡ applied wl wr
places_all {wl} {wr} {rs} {l} {r} p e f = sym (append-nil rs) ∙ (rw (e, f) at p.all)

-- ---- one row

pub before_last : (xs : List Row) (last : Row) (key : ℕ) → IsOrdered (xs ++ last ∷ []) → last.key < key → Each (λ r. r.key < key) (xs ++ last ∷ [])
before_last [] last key a lt = (lt, tt)
before_last (x ∷ xs) last key a lt =
    let less = (all_right (λ (s : Row). x.key < s.key) xs (last ∷ []) a.0).0 in
    (omega arith, before_last xs last key a.1 lt)

-- ---- writes of a position

pub newest_more : (pos : ℕ) (ws : List Write) (w : Write) → newest (rows_at pos (ws ++ w ∷ [])) ≡ put row_before (record { key = w.key; writer = pos; value = w.value }) (newest (rows_at pos ws))
newest_more pos ws w =
    ap newest (map-append (λ (v : Write). record { key = v.key; writer = pos; value = v.value }) ws (w ∷ []))
    ∙ newest-append (rows_at pos ws) (record { key = w.key; writer = pos; value = w.value } ∷ [])
