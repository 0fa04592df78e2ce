-- A scan gives the same on two maps that agree on the part of its span that it read.
use Rattle.std.proofs.Common.{◌≡◌, ◌∙◌, ℕ, zero, suc, ◌<◌, ◌≤◌, Bool, true, false, cond, List, [], ◌∷◌, ◌++◌, length, take, refl, sym, ap, subst, arith, inl, inr}
use mathlib.Core.Bool.{true≢false}
use Rattle.std.specs.Option.{option_map_or}
use Rattle.std.specs.List.{last_or}
use Rattle.std.specs.Prelude.{Some, None, nat_le, ◌==◌, if◌then◌else◌}
use Rattle.std.proofs.lemmas.Bool.{cases_lt, eqb-true, leb-true, le-leb, lt-leb, and_parts, and_right}
use Rattle.std.proofs.Math.Seq.{take-append_seam}
use Rattle.hy_base.specs.declared.report.Pair.{Pair}
use Rattle.hy_base.specs.Entry.{is_in_span}
use Rattle.hy_serial_laws.proofs.Pairs.{AllPairs, AllPairs-map, PairsRise, kept, rise_kept, narrow}

abbrev pub within : ℕ → ℕ → ℕ → Bool
within lo hi key = is_in_span key (record { lo = lo; hi = hi })

inside : (lo hi key : ℕ) → lo ≤ key → key ≤ hi → within lo hi key ≡ true
inside lo hi key a b = rw (le-leb lo key a, le-leb key hi b) refl

above : (lo hi key : ℕ) → hi < key → within lo hi key ≡ false
above lo hi key lt = and_right (nat_le lo key) (nat_le key hi) (lt-leb key hi lt)

low_of : (lo hi key : ℕ) → within lo hi key ≡ true → lo ≤ key
low_of lo hi key h = leb-true lo key (and_parts (nat_le lo key) (nat_le key hi) h).0

high_of : (lo hi key : ℕ) → within lo hi key ≡ true → key ≤ hi
high_of lo hi key h = leb-true key hi (and_parts (nat_le lo key) (nat_le key hi) h).1

-- a narrower span
narrower : (lo last hi key : ℕ) → last ≤ hi → within lo last key ≡ true → within lo hi key ≡ true
narrower lo last hi key le h = let high : key ≤ last = high_of lo last key h in inside lo hi key (low_of lo last key h) (omega (arith, high, le))

passing_case : (q : ℕ → Bool) (p : Pair) (ps : List Pair) (b : Bool) → q p.key ≡ b → AllPairs (λ s. q s.key ≡ true) ps → AllPairs (λ s. q s.key ≡ true) (cond b (p ∷ ps) ps)
passing_case q p ps true e a = (e, a)
passing_case q p ps false e a = a

passing : (q : ℕ → Bool) (ps : List Pair) → AllPairs (λ s. q s.key ≡ true) (kept q ps)
passing q [] = tt
passing q (p ∷ ps) = passing_case q p (kept q ps) (q p.key) refl (passing q ps)

none_within : (lo hi : ℕ) (ps : List Pair) → AllPairs (λ s. hi < s.key) ps → kept (within lo hi) ps ≡ []
none_within lo hi [] a = refl
none_within lo hi (p ∷ ps) a = rw (above lo hi p.key a.0) (none_within lo hi ps a.1)

-- the last key of some pairs
abbrev end_of : Pair → List Pair → ℕ
end_of y [] = y.key
end_of y (z ∷ zs) = end_of z zs

last_is_end : (y : Pair) (ys : List Pair) (hi : ℕ) → option_map_or (λ p. p.key) (last_or (Some y) ys) hi ≡ end_of y ys
last_is_end y [] hi = refl
last_is_end y (z ∷ zs) hi = last_is_end z zs hi

end_from : (y : Pair) (ys : List Pair) (n : ℕ) → PairsRise (y ∷ ys) → y.key ≤ end_of y (take n ys)
end_from y ys zero r = omega arith
end_from y [] (suc n) r = omega arith
end_from y (z ∷ zs) (suc n) r = let later : z.key ≤ end_of z (take n zs) = end_from z zs n r.1 in omega (arith, later, r.0.0)

end_up_to : (hi : ℕ) (y : Pair) (ys : List Pair) (n : ℕ) → AllPairs (λ s. s.key ≤ hi) (y ∷ ys) → end_of y (take n ys) ≤ hi
end_up_to hi y ys zero a = a.0
end_up_to hi y [] (suc n) a = a.0
end_up_to hi y (z ∷ zs) (suc n) a = end_up_to hi z zs n a.1

-- the first pairs are those up to the last of them
first_ones : (lo : ℕ) (y : Pair) (ys : List Pair) (n : ℕ) → PairsRise (y ∷ ys) → AllPairs (λ s. lo ≤ s.key) (y ∷ ys) → length (take n ys) ≡ n → kept (within lo (end_of y (take n ys))) (y ∷ ys) ≡ y ∷ take n ys
first_ones lo y ys zero r a count = rw (inside lo y.key y.key a.0 (omega arith)) (ap (λ zs. y ∷ zs) (none_within lo y.key ys r.0))
first_ones lo y [] (suc n) r a count = absurd (omega (arith, count))
first_ones lo y (z ∷ zs) (suc n) r a count =
    let last : ℕ = end_of z (take n zs) in
    let up : y.key ≤ last = let later : z.key ≤ last = end_from z zs n r.1 in omega (arith, later, r.0.0) in
    rw (inside lo last y.key a.0 up) (ap (λ xs. y ∷ xs) (first_ones lo z zs n r.1 a.1 (omega (arith, count))))

-- of a longer span the pairs up to an earlier end come first
record Further (lo last hi : ℕ) (ps : List Pair) : Type 0 where
  more : List Pair
  is : kept (within lo hi) ps ≡ kept (within lo last) ps ++ more

further_case : (lo last hi : ℕ) (p : Pair) (ps : List Pair) (a b : Bool) → last ≤ hi → PairsRise (p ∷ ps) → within lo last p.key ≡ a → within lo hi p.key ≡ b → Further lo last hi ps → Further lo last hi (p ∷ ps)
further_case lo last hi p ps true true le r e f rest = record { more = rest.more; is = rw (e, f) (ap (λ xs. p ∷ xs) rest.is) }
further_case lo last hi p ps true false le r e f rest = absurd (true≢false (sym (narrower lo last hi p.key le e) ∙ f))
further_case lo last hi p ps false false le r e f rest = record { more = rest.more; is = rw (e, f) rest.is }
further_case lo last hi p ps false true le r e f rest =
    elim (cases_lt last p.key) [
      | inl lt ↦
          let none : kept (within lo last) ps ≡ [] = none_within lo last ps (AllPairs-map (λ s. p.key < s.key) (λ s. last < s.key) (λ s k. omega (arith, k, lt)) ps r.0) in
          record { more = p ∷ kept (within lo hi) ps; is = rw (e, f) (ap (λ xs. xs ++ (p ∷ kept (within lo hi) ps)) (sym none)) }
      | inr ge ↦ absurd (true≢false (sym (inside lo last p.key (low_of lo hi p.key f) ge) ∙ e))
    ]

further : (lo last hi : ℕ) (ps : List Pair) → last ≤ hi → PairsRise ps → Further lo last hi ps
further lo last hi [] le r = record { more = []; is = refl }
further lo last hi (p ∷ ps) le r = further_case lo last hi p ps (within lo last p.key) (within lo hi p.key) le r refl refl (further lo last hi ps le r.1)

taken_first : (given more : List Pair) (n : ℕ) → length given ≡ n → take n (given ++ more) ≡ given
taken_first given more n e = ap (λ k. take k (given ++ more)) (sym e) ∙ take-append_seam given more

-- the end of what a scan of n pairs read, where these are the pairs of the span
abbrev pub read_end : ℕ → ℕ → List Pair → ℕ
read_end hi n given = if length given == n then option_map_or (λ p. p.key) (last_or None given) hi else hi

scan_case : (lo hi m : ℕ) (X Y : List Pair) → PairsRise X → PairsRise Y → (Z : List Pair) → kept (within lo hi) X ≡ Z → (b : Bool) → (length (take (suc m) Z) == suc m) ≡ b
    → let last = if b then option_map_or (λ p. p.key) (last_or None (take (suc m) Z)) hi else hi in kept (within lo last) X ≡ kept (within lo last) Y → take (suc m) (kept (within lo hi) Y) ≡ take (suc m) Z
scan_case lo hi m X Y r s Z e false f same = ap (take (suc m)) (sym same ∙ e)
scan_case lo hi m X Y r s [] e true f same = ap (take (suc m)) (sym same ∙ e)
scan_case lo hi m X Y r s (z ∷ zs) e true f same =
    let all : length (take (suc m) (z ∷ zs)) ≡ suc m = eqb-true (length (take (suc m) (z ∷ zs))) (suc m) f in
    let count : length (take m zs) ≡ m = omega (arith, all) in
    let last : ℕ = end_of z (take m zs) in
    let at_last : option_map_or (λ p. p.key) (last_or (Some z) (take m zs)) hi ≡ last = last_is_end z (take m zs) hi in
    let rises : PairsRise (z ∷ zs) = subst PairsRise e (rise_kept (within lo hi) X r) in
    let pass : AllPairs (λ s. within lo hi s.key ≡ true) (z ∷ zs) = subst (AllPairs (λ s. within lo hi s.key ≡ true)) e (passing (within lo hi) X) in
    let lows : AllPairs (λ s. lo ≤ s.key) (z ∷ zs) = AllPairs-map (λ s. within lo hi s.key ≡ true) (λ s. lo ≤ s.key) (λ s h. low_of lo hi s.key h) (z ∷ zs) pass in
    let highs : AllPairs (λ s. s.key ≤ hi) (z ∷ zs) = AllPairs-map (λ s. within lo hi s.key ≡ true) (λ s. s.key ≤ hi) (λ s h. high_of lo hi s.key h) (z ∷ zs) pass in
    let most : last ≤ hi = end_up_to hi z zs m highs in
    let own : kept (within lo last) X ≡ z ∷ take m zs =
    sym (narrow (within lo hi) (within lo last) (λ key h. narrower lo last hi key most h) X) ∙ (ap (kept (within lo last)) e ∙ first_ones lo z zs m rises lows count) in
    let same_there : kept (within lo last) X ≡ kept (within lo last) Y = subst (λ k. kept (within lo k) X ≡ kept (within lo k) Y) at_last same in
    let other : kept (within lo last) Y ≡ z ∷ take m zs = sym same_there ∙ own in
    let f : Further lo last hi Y = further lo last hi Y most s in
    ap (take (suc m)) (f.is ∙ ap (λ xs. xs ++ f.more) other) ∙ taken_first (z ∷ take m zs) f.more (suc m) all

-- a scan of n pairs gives the same on maps that agree on what it read
pub same_scan : (lo hi n : ℕ) (X Y : List Pair) → PairsRise X → PairsRise Y
    → let last = read_end hi n (take n (kept (within lo hi) X)) in kept (within lo last) X ≡ kept (within lo last) Y → take n (kept (within lo hi) Y) ≡ take n (kept (within lo hi) X)
same_scan lo hi zero X Y r s same = refl
same_scan lo hi (suc m) X Y r s same = scan_case lo hi m X Y r s (kept (within lo hi) X) refl (length (take (suc m) (kept (within lo hi) X)) == suc m) refl same
