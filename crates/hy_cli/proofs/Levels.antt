-- A command takes the words that are its options, and its rows mean what they say.
use Rattle.std.proofs.Common.{◌≡◌, ◌∙◌, ◌||◌, not, Bool, true, false, refl, sym, ap, subst, List, [], ◌∷◌, Option, Some, None, is_some, option_map, true≢false}
use Rattle.std.specs.Prelude.{fold}
use Rattle.std.specs.List.{find, list_all}
use Rattle.std.specs.Str.{bytes_eq}
use Rattle.clap.specs.Walk.{Row, Rule, Walk, finished, walk, nothing_held, rows_after, with_default}
use Rattle.clap.specs.Takes.{default_passes, level_passes, settle_passes, is_given as is_used}
use Rattle.clap.proofs.WalkLemmas.{both}
use Rattle.std.proofs.lemmas.Bool.{and_from}
use Rattle.std.proofs.lemmas.Slice.Eq.{bytes_eq-Decides}
use Rattle.std.specs.Option.{option_or}
use Rattle.hy_base.specs.Spelling.{Text}
use Rattle.hy_cli.specs.CommandLine.{CliOption, Given, given_all, has_needed, is_given, option_named, reads, spelled}
use Rattle.hy_cli.proofs.Walks.{AreRight, IsKnownOption, WalkStands, built_rules, leaf_shape, read_on, row_for, rows_for}
use Rattle.hy_cli.proofs.Matches.{any_found, default_at, defaults_found, given_row, row_at}

abbrev pub EachKnown : List CliOption → List CliOption → Type 0
EachKnown all [] = Unit {0}
EachKnown all (o ∷ rest) = IsKnownOption all o × EachKnown all rest

known_from : (all some : List CliOption) → EachKnown all some → (w : Text) (o : CliOption) → option_named some w ≡ Some o → (w ≡ spelled o.name) × IsKnownOption all o
known_from all [] each w o e = cc e
known_from all (x ∷ rest) each w o e = go (bytes_eq (spelled x.name) w) refl (known_from all rest each.1)
  where
    go : (b : Bool) → bytes_eq (spelled x.name) w ≡ b → ((w : Text) (o : CliOption) → option_named rest w ≡ Some o → (w ≡ spelled o.name) × IsKnownOption all o) → (w ≡ spelled o.name) × IsKnownOption all o
    go true here more =
        let same : x ≡ o = cc (rw here at e) in
        subst (λ (y : CliOption). (w ≡ spelled y.name) × IsKnownOption all y) same (sym ((bytes_eq-Decides (spelled x.name) w).0 here), each.0)
    go false here more = more w o (rw here at e)

-- what a table of options has to pass, each by computation
pub record IsTable (options : List CliOption) : Type 0 where
  pub known : EachKnown options options
  pub defaults : list_all default_passes (built_rules options) ≡ true
  pub free : list_all (λ (a : Rule). a.is_free) (built_rules options) ≡ true

-- the rows of the options that were given, with the defaults of the others
abbrev pub rows_of_all : List CliOption → Given → List Row
rows_of_all options g = fold with_default (rows_for g) (built_rules options)

used_if_given : (options : List CliOption) (g : Given) (name : Text) → is_given name g ≡ true → is_used name (rows_of_all options g) ≡ true
used_if_given options g name e = go (find (λ p. bytes_eq p.0 name) g) refl
  where
    row_is : row_at name (rows_of_all options g) ≡ option_or (option_map row_for (find (λ p. bytes_eq p.0 name) g)) (default_at name (built_rules options))
    row_is = defaults_found name (built_rules options) (rows_for g) ∙ ap (λ o. option_or o (default_at name (built_rules options))) (given_row name g)

    go : (found : Option (Text × Text)) → find (λ p. bytes_eq p.0 name) g ≡ found → is_used name (rows_of_all options g) ≡ true
    go None is = absurd (true≢false (sym e ∙ sym (any_found (λ p. bytes_eq p.0 name) g) ∙ ap is_some is))
    go (Some p) is = rw (row_is, is) refl

needed_used : (all some : List CliOption) (g : Given) → has_needed some g ≡ true → list_all (λ (a : Rule). not a.required || is_used a.id (rows_of_all all g)) (built_rules some) ≡ true
needed_used all [] g e = refl
needed_used all (o ∷ rest) g e =
    let p = both (not o.needed || is_given o.name g) _ e in
    and_from _ _ (go o.needed refl p.0) (needed_used all rest g p.1)
  where
    go : (b : Bool) → o.needed ≡ b → (not o.needed || is_given o.name g) ≡ true → (not o.needed || is_used o.name (rows_of_all all g)) ≡ true
    go false is h = rw is refl
    go true is h = let given : is_given o.name g ≡ true = rw is at h in rw is (used_if_given all g o.name given)

-- the command takes the words, and its rows are those of the options that were given
pub leaf_takes : (command : Text) (options : List CliOption) → IsTable options → (words : List Text) (g : Given) → given_all options words ≡ Some g
    → (level_passes (leaf_shape command options) [] nothing_held words false ≡ true) × (rows_after (built_rules options) [] words ≡ rows_of_all options g) × AreRight options g
leaf_takes command options table words g e = go (reads options [] words) refl
  where
    start : WalkStands options [] [] None
    start = record { right = tt; settles = refl; settled = refl }

    go : (r : Option Given) → reads options [] words ≡ r
        → (level_passes (leaf_shape command options) [] nothing_held words false ≡ true) × (rows_after (built_rules options) [] words ≡ rows_of_all options g) × AreRight options g
    go None is = cc (rw is at e)
    go (Some h) is = needed (has_needed options h) refl
      where
        needed : (b : Bool) → has_needed options h ≡ b
            → (level_passes (leaf_shape command options) [] nothing_held words false ≡ true) × (rows_after (built_rules options) [] words ≡ rows_of_all options g) × AreRight options g
        needed false n = cc (rw (is, n) at e)
        needed true n =
            let same : h ≡ g = cc (rw (is, n) at e) in
            let walks = read_on command options (known_from options options table.known) h words [] [] None start is in
            let c = built_rules options in
            let rows_are : rows_after c [] words ≡ rows_of_all options h = ap (λ (w : Walk). finished c w.held) walks.ends ∙ ap (λ rs. fold with_default rs c) walks.stands.settled in
            let settles : settle_passes c false (walk c [] nothing_held words).held ≡ true = ap (λ (w : Walk). settle_passes c false w.held) walks.ends ∙ walks.stands.settles in
            let used : list_all (λ (a : Rule). not a.required || is_used a.id (rows_after c [] words)) c ≡ true =
            ap (λ rs. list_all (λ (a : Rule). not a.required || is_used a.id rs) c) rows_are ∙ needed_used options options h n in (
              and_from _ _ walks.passes (and_from _ _ settles (and_from _ _ table.defaults (and_from _ _ table.free used))),
              rows_are ∙ ap (rows_of_all options) same,
              subst (AreRight options) same walks.stands.right,
            )
