-- What the rows at the end of a walk hold.
use Rattle.std.proofs.Common.{◌≡◌, ◌∙◌, ◌||◌, ℕ, Bool, true, false, cond, refl, sym, ap, subst, List, [], ◌∷◌, Option, Some, None, codes, is_some, option_map, true≢false}
use Rattle.std.specs.Prelude.{fold}
use Rattle.std.specs.List.{find, list_any}
use Rattle.std.specs.Str.{bytes_eq}
use Rattle.std.specs.Str.Parse.{digits_value}
use Rattle.clap.specs.Walk.{Row, Rule, has_row, more_values, reading_by, row_text, with_default, default_rows}
use Rattle.clap.specs.declared.parser.matches.ValueSource.TheVariants.{DefaultValue}
use Rattle.clap.proofs.WalkLemmas.{find-map}
use Rattle.std.proofs.lemmas.Slice.Eq.{bytes_eq-Decides}
use Rattle.std.specs.Option.{option_or}
use Rattle.std.proofs.lemmas.List.Folds.{find-append}
use Rattle.hy_cli.specs.CommandLine.{OptionKind, flag, number, CliOption, Given, choices_given, is_given, is_number_in}
use Rattle.hy_base.specs.Spelling.{Text}
use Rattle.hy_cli.specs.Matches.{choices_found}
use Rattle.hy_cli.proofs.Walks.{AreRight, IsRight, RightFor, at_no_row, built_rules, number_in, opt_by_name, row_for, rows_for, starts_with_digit}

-- ---- searches

pub any_found : {X : Type 0} (p : X → Bool) (xs : List X) → is_some (find p xs) ≡ list_any p xs
any_found p [] = refl
any_found p (x ∷ xs) = go (p x) (any_found p xs)
  where
    go : (b : Bool) → is_some (find p xs) ≡ list_any p xs → is_some (cond b (Some x) (find p xs)) ≡ (b || list_any p xs)
    go true e = refl
    go false e = e

-- ---- the rows with the defaults

abbrev pub row_at : Text → List Row → Option Row
row_at id rows = find (λ r. bytes_eq r.id id) rows

-- the row that the defaults of an argument make
abbrev pub default_row : Rule → List Text → Option Row
default_row a [] = None
default_row a (v ∷ vs) = Some (record { id = a.id; values = v ∷ vs; count = None; source = Some DefaultValue; reading = reading_by a })

abbrev pub named_default : Bool → Rule → Option Row
named_default true a = default_row a a.defaults
named_default false a = None

abbrev pub default_at : Text → List Rule → Option Row
default_at id [] = None
default_at id (a ∷ rest) = option_or (named_default (bytes_eq a.id id) a) (default_at id rest)

or_none : {X : Type 0} (x : Option X) → x ≡ option_or x None
or_none None = refl
or_none (Some x) = refl

or_assoc : {X : Type 0} (x y z : Option X) → option_or (option_or x y) z ≡ option_or x (option_or y z)
or_assoc None y z = refl
or_assoc (Some x) y z = refl

or_known : {X : Type 0} (x y : Option X) → is_some x ≡ true → x ≡ option_or x y
or_known None y e = absurd (true≢false (sym e))
or_known (Some x) y e = refl

one_default : (id : Text) (rows : List Row) (a : Rule) → row_at id (with_default rows a) ≡ option_or (row_at id rows) (named_default (bytes_eq a.id id) a)
one_default id rows a = go (has_row a.id rows) (bytes_eq a.id id) refl refl
  where
    added : (n : Bool) (ds : List Text) → has_row a.id rows ≡ false → bytes_eq a.id id ≡ n → a.defaults ≡ ds
        → row_at id (default_rows a.id (reading_by a) ds rows) ≡ option_or (row_at id rows) (elim n as (λ _. Option Row) [ true ↦ default_row a ds | false ↦ None ])
    added true [] absent named is = or_none _
    added false [] absent named is = or_none _
    added n (v ∷ vs) absent named is =
        let row : Row = record { id = a.id; values = v ∷ vs; count = None; source = Some DefaultValue; reading = reading_by a } in
        ap (row_at id) (at_no_row a.id (more_values DefaultValue (v ∷ vs)) (row ∷ []) rows absent) ∙ find-append (λ (r : Row). bytes_eq r.id id) rows (row ∷ []) ∙ ap (λ b. option_or (row_at id rows) (cond b (Some row) None)) named ∙ last n row
      where
        last : (n : Bool) (row : Row) → option_or (row_at id rows) (cond n (Some row) None) ≡ option_or (row_at id rows) (elim n as (λ _. Option Row) [ true ↦ Some row | false ↦ None ])
        last true row = refl
        last false row = refl

    go : (has n : Bool) → has_row a.id rows ≡ has → bytes_eq a.id id ≡ n → row_at id (with_default rows a) ≡ option_or (row_at id rows) (named_default (bytes_eq a.id id) a)
    go true true here named =
        let there : is_some (row_at id rows) ≡ true = any_found (λ (r : Row). bytes_eq r.id id) rows ∙ subst (λ (x : Text). has_row x rows ≡ true) ((bytes_eq-Decides a.id id).0 named) here in
        rw (here, named) (or_known _ _ there)
    go true false here named = rw (here, named) (or_none _)
    go false true absent named = rw (absent, named) (added true a.defaults absent named refl)
    go false false absent named = rw (absent, named) (added false a.defaults absent named refl)

pub defaults_found : (id : Text) (c : List Rule) (rows : List Row) → row_at id (fold with_default rows c) ≡ option_or (row_at id rows) (default_at id c)
defaults_found id [] rows = or_none _
defaults_found id (a ∷ c) rows =
    defaults_found id c (with_default rows a) ∙ ap (λ o. option_or o (default_at id c)) (one_default id rows a) ∙ or_assoc (row_at id rows) (named_default (bytes_eq a.id id) a) (default_at id c)

-- ---- the values

pub given_row : (id : Text) (g : Given) → row_at id (rows_for g) ≡ option_map row_for (find (λ p. bytes_eq p.0 id) g)
given_row id g = sym (find-map (λ (r : Row). bytes_eq r.id id) row_for g)

pub right_found : (options : List CliOption) (id : Text) (g : Given) (p : Text × Text) → AreRight options g → find (λ p. bytes_eq p.0 id) g ≡ Some p → IsRight (opt_by_name options id) p.1
right_found options id [] p right e = cc e
right_found options id (q ∷ g) p right e = go (bytes_eq q.0 id) refl (right_found options id g p right.1)
  where
    go : (b : Bool) → bytes_eq q.0 id ≡ b → (find (λ p. bytes_eq p.0 id) g ≡ Some p → IsRight (opt_by_name options id) p.1) → IsRight (opt_by_name options id) p.1
    go true here more =
        let same : q ≡ p = cc (rw here at e) in
        let name = (bytes_eq-Decides q.0 id).0 here in
        subst (λ (x : Text × Text). IsRight (opt_by_name options id) x.1) same (subst (λ (x : Text). IsRight (opt_by_name options x) q.1) name right.0)
    go false here more = more (rw here at e)

-- a number is read as it was given
pub number_same : (options : List CliOption) (id : Text) (low high otherwise : ℕ) (o : CliOption) (g : Given) (rows : List Row) → AreRight options g
    → opt_by_name options id ≡ Some o → o.kind ≡ number low high → default_at id (built_rules options) ≡ None
    → rows ≡ fold with_default (rows_for g) (built_rules options) → (choices_found rows).number_or otherwise id ≡ (choices_given g).number_or otherwise id
number_same options id low high otherwise o g rows right named is none ends = go (find (λ p. bytes_eq p.0 id) g) refl
  where
    row_is : row_at id rows ≡ option_or (option_map row_for (find (λ p. bytes_eq p.0 id) g)) None
    row_is = ap (row_at id) ends ∙ defaults_found id (built_rules options) (rows_for g) ∙ ap (λ o. option_or o (default_at id (built_rules options))) (given_row id g)
        ∙ ap (option_or (option_map row_for (find (λ p. bytes_eq p.0 id) g))) none

    go : (found : Option (Text × Text)) → find (λ p. bytes_eq p.0 id) g ≡ found → (choices_found rows).number_or otherwise id ≡ (choices_given g).number_or otherwise id
    go None e = rw (row_is, e) refl
    go (Some p) e =
        let fits : is_number_in low high p.1 ≡ true = subst (λ (k : OptionKind). RightFor k p.1) is (subst (λ (x : Option CliOption). IsRight x p.1) named (right_found options id g p right e)) in
        let plain = (starts_with_digit p.1 (number_in low high p.1 fits).numeral).3 in
        rw (row_is, e) (ap (digits_value 10) plain)

pub flag_same : (options : List CliOption) (id : Text) (o : CliOption) (row : Row) (g : Given) (rows : List Row) → AreRight options g
    → opt_by_name options id ≡ Some o → o.kind ≡ flag → default_at id (built_rules options) ≡ Some row → row_text row ≡ Some (codes "false")
    → rows ≡ fold with_default (rows_for g) (built_rules options) → (choices_found rows).has id ≡ (choices_given g).has id
flag_same options id o row g rows right named is default reads ends = go (find (λ p. bytes_eq p.0 id) g) refl
  where
    row_is : row_at id rows ≡ option_or (option_map row_for (find (λ p. bytes_eq p.0 id) g)) (Some row)
    row_is = ap (row_at id) ends ∙ defaults_found id (built_rules options) (rows_for g) ∙ ap (λ o. option_or o (default_at id (built_rules options))) (given_row id g)
        ∙ ap (option_or (option_map row_for (find (λ p. bytes_eq p.0 id) g))) default

    there : is_some (find (λ p. bytes_eq p.0 id) g) ≡ is_given id g
    there = any_found (λ p. bytes_eq p.0 id) g

    go : (found : Option (Text × Text)) → find (λ p. bytes_eq p.0 id) g ≡ found → (choices_found rows).has id ≡ (choices_given g).has id
    go None e = rw (← there, row_is, e, reads) refl
    go (Some p) e =
        let yes : p.1 ≡ codes "true" = subst (λ (k : OptionKind). RightFor k p.1) is (subst (λ (x : Option CliOption). IsRight x p.1) named (right_found options id g p right e)) in
        rw (← there, row_is, e, yes) refl
