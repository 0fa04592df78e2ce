-- What the typed getters read of values that clap took.
use Rattle.std.proofs.Common.{◌≡◌, ◌∙◌, ◌<◌, ◌≤◌, ◌^◌, ◌||◌, true≢false, ℕ, Bool, true, false, refl, sym, ap, subst, arith, List, ◌∷◌, [], drop, map, Option, Some, None, codes, Result, Ok, Err, unwrap_or, is_some}
use Rattle.std.specs.Str.{bytes_eq}
use Rattle.std.specs.Str.Parse.{ParsesUnsigned, digits_value, without_leading_plus}
use Rattle.clap.specs.Words.{Row, one_of, one_text, rows_of}
use Rattle.clap.specs.Matches.{ReadsOne}
use Rattle.clap.specs.declared.builder.value_parser.ValueParser.TheVariants as vp
use Rattle.clap.specs.declared.parser.matches.Found.{Found}
use Rattle.clap.proofs.ValueTestLemmas.{accepts-Accepts}
use Rattle.clap.proofs.WalkLemmas.{both, one_text-rows}
use Rattle.std.proofs.lemmas.Slice.Eq.{bytes_eq-Decides}
use Rattle.hy_base.specs.Spelling.{Text}
use Rattle.std.specs.List.{find}
use Rattle.hy_cli.specs.CommandLine.{CliCommand, command_named, commands, compact_command, follow_command, load_command, point_option, report_command, reports, run_command, save_option, seed_option, sim_command, size_option, threads_option}
use Rattle.hy_cli.specs.Matches.{choices_found, has_accepted, is_accepted}
use Rattle.hy_cli.proofs.Walks.{flag_opt, number_opt}

pub reads_number : (E : Type 0) (G : List ℕ → Result ℕ E → Type 0) (k low high otherwise : ℕ) (needed : Bool) (f : Found) (id : Text) (r : Option ℕ)
    → (one_text f id ≡ None → r ≡ None) → ((t : Text) → one_text f id ≡ Some t → ReadsOne G t r)
    → ((u : List ℕ) (x : Result ℕ E) → G u x → ParsesUnsigned k 10 u x) → high < 2 ^ k
    → is_accepted (rows_of f) (number_opt low high id needed) ≡ true → unwrap_or r otherwise ≡ (choices_found (rows_of f)).number_or otherwise id
reads_number E G k low high otherwise needed f id r none value only fits accepted = go (one_of id (rows_of f)) refl
  where
    same : one_text f id ≡ one_of id (rows_of f)
    same = one_text-rows f id

    read : (t : Text) → one_of id (rows_of f) ≡ Some t → (o : Option ℕ) → ReadsOne G t o → unwrap_or o otherwise ≡ digits_value 10 (without_leading_plus t)
    read t is (Some n) h = (only t (Ok n) h).1
    read t is None h =
        let passed = accepts-Accepts false (vp.Unsigned low high) t (rw is at accepted) in
        absurd (only t (Err h.0) h.1 (passed.0, omega (arith, passed.3)))

    go : (o : Option Text) → one_of id (rows_of f) ≡ o → unwrap_or r otherwise ≡ (choices_found (rows_of f)).number_or otherwise id
    go None is = rw (is, none (same ∙ is)) refl
    go (Some t) is = rw is (read t is r (value t (same ∙ is)))

pub reads_flag : (needed : Bool) (f : Found) (id : Text) (r : Bool)
    → (one_text f id ≡ None → r ≡ false) → (one_text f id ≡ Some (codes "true") → r ≡ true) → (one_text f id ≡ Some (codes "false") → r ≡ false)
    → is_accepted (rows_of f) (flag_opt id needed) ≡ true → r ≡ (choices_found (rows_of f)).has id
reads_flag needed f id r none on off accepted = go (one_of id (rows_of f)) refl
  where
    same : one_text f id ≡ one_of id (rows_of f)
    same = one_text-rows f id

    read : (t : Text) → one_of id (rows_of f) ≡ Some t → (a b : Bool) → bytes_eq t (codes "true") ≡ a → bytes_eq t (codes "false") ≡ b → (a || b) ≡ true → r ≡ a
    read t is true b is_true is_false passed = on (same ∙ is ∙ ap (λ x. Some x) ((bytes_eq-Decides t (codes "true")).0 is_true))
    read t is false true is_true is_false passed = off (same ∙ is ∙ ap (λ x. Some x) ((bytes_eq-Decides t (codes "false")).0 is_false))
    read t is false false is_true is_false passed = absurd (true≢false (sym passed))

    go : (o : Option Text) → one_of id (rows_of f) ≡ o → r ≡ (choices_found (rows_of f)).has id
    go None is = rw (is, none (same ∙ is)) refl
    go (Some t) is = rw is (read t is (bytes_eq t (codes "true")) (bytes_eq t (codes "false")) refl refl (rw is at accepted))

-- a name that isn't that of the first command is looked for among the others
passed : (word name : Text) (more : List CliCommand) → (name ≡ word → ⊥) → (c : CliCommand) → c.name ≡ word → find (λ c. bytes_eq c.name name) (c ∷ more) ≡ find (λ c. bytes_eq c.name name) more
passed word name more other c is = go (bytes_eq c.name name) refl
  where
    go : (b : Bool) → bytes_eq c.name name ≡ b → find (λ c. bytes_eq c.name name) (c ∷ more) ≡ find (λ c. bytes_eq c.name name) more
    go true same = absurd (other (sym ((bytes_eq-Decides c.name name).0 same) ∙ is))
    go false same = rw same refl

-- where it is none of the others, it is that of a report
pub report_left : (name : Text) → (name ≡ codes "run" → ⊥) → (name ≡ codes "sim" → ⊥) → (name ≡ codes "compact" → ⊥) → (name ≡ codes "follow" → ⊥) → (name ≡ codes "load" → ⊥)
    → command_named name ≡ find (λ c. bytes_eq c.name name) (map report_command reports)
report_left name run sim compact follow load =
    passed (codes "run") name (drop 1 commands) run run_command refl ∙ passed (codes "sim") name (drop 2 commands) sim sim_command refl
    ∙ passed (codes "compact") name (drop 3 commands) compact compact_command refl ∙ passed (codes "follow") name (drop 4 commands) follow follow_command refl
    ∙ passed (codes "load") name (drop 5 commands) load load_command refl

-- a command that was found has the name
pub found_name : (cs : List CliCommand) (name : Text) (c : CliCommand) → find (λ c. bytes_eq c.name name) cs ≡ Some c → c.name ≡ name
found_name [] name c e = cc e
found_name (x ∷ cs) name c e = go (bytes_eq x.name name) refl (found_name cs name c)
  where
    go : (b : Bool) → bytes_eq x.name name ≡ b → (find (λ c. bytes_eq c.name name) cs ≡ Some c → c.name ≡ name) → c.name ≡ name
    go true same more = let first : x ≡ c = cc (rw same at e) in sym (ap (λ (y : CliCommand). y.name) first) ∙ (bytes_eq-Decides x.name name).0 same
    go false same more = more (rw same at e)

-- what a `run` has, a `sim`, a `follow`, and a `load`
pub run_accepted : (name : Text) (rows : List Row) → name ≡ codes "run" → has_accepted name rows ≡ true
    → (is_accepted rows threads_option ≡ true) × (is_accepted rows point_option ≡ true) × (is_accepted rows save_option ≡ true)
run_accepted name rows is accepted =
    let all : has_accepted (codes "run") rows ≡ true = subst (λ (x : Text). has_accepted x rows ≡ true) is accepted in
    let p = both (is_accepted rows threads_option) _ all in
    let q = both (is_accepted rows point_option) _ p.1 in
    (p.0, q.0, (both (is_accepted rows save_option) _ q.1).0)

pub sim_accepted : (name : Text) (rows : List Row) → name ≡ codes "sim" → has_accepted name rows ≡ true → is_accepted rows threads_option ≡ true
sim_accepted name rows is accepted =
    let all : has_accepted (codes "sim") rows ≡ true = subst (λ (x : Text). has_accepted x rows ≡ true) is accepted in
    (both (is_accepted rows threads_option) _ all).0

pub follow_accepted : (name : Text) (rows : List Row) → name ≡ codes "follow" → has_accepted name rows ≡ true → is_accepted rows threads_option ≡ true
follow_accepted name rows is accepted =
    let all : has_accepted (codes "follow") rows ≡ true = subst (λ (x : Text). has_accepted x rows ≡ true) is accepted in
    (both (is_accepted rows threads_option) _ all).0

pub load_accepted : (name : Text) (rows : List Row) → name ≡ codes "load" → has_accepted name rows ≡ true
    → (is_accepted rows seed_option ≡ true) × (is_accepted rows size_option ≡ true) × (is_accepted rows threads_option ≡ true)
load_accepted name rows is accepted =
    let all : has_accepted (codes "load") rows ≡ true = subst (λ (x : Text). has_accepted x rows ≡ true) is accepted in
    let p = both (is_accepted rows seed_option) _ all in
    let q = both (is_accepted rows size_option) _ p.1 in
    (p.0, q.0, (both (is_accepted rows threads_option) _ q.1).0)

-- a number that clap took lies in the bounds of its option, where the one that stands for none does
pub found_in_range : (low high otherwise : ℕ) (id : Text) (rows : List Row) → is_accepted rows (number_opt low high id false) ≡ true → low ≤ otherwise → otherwise ≤ high
    → (low ≤ (choices_found rows).number_or otherwise id) × ((choices_found rows).number_or otherwise id ≤ high)
found_in_range low high otherwise id rows accepted above below = go (one_of id rows) refl
  where
    go : (o : Option Text) → one_of id rows ≡ o → (low ≤ (choices_found rows).number_or otherwise id) × ((choices_found rows).number_or otherwise id ≤ high)
    go None is = rw is (above, below)
    go (Some t) is = let passed = accepts-Accepts false (vp.Unsigned low high) t (rw is at accepted) in rw is (passed.2, passed.3)

-- and so of an option that is needed
pub needed_in_range : (low high otherwise : ℕ) (id : Text) (rows : List Row) → is_accepted rows (number_opt low high id true) ≡ true
    → (low ≤ (choices_found rows).number_or otherwise id) × ((choices_found rows).number_or otherwise id ≤ high)
needed_in_range low high otherwise id rows accepted = go (one_of id rows) refl
  where
    go : (o : Option Text) → one_of id rows ≡ o → (low ≤ (choices_found rows).number_or otherwise id) × ((choices_found rows).number_or otherwise id ≤ high)
    go None is = absurd (true≢false (sym (rw is at accepted)))
    go (Some t) is = let passed = accepts-Accepts false (vp.Unsigned low high) t (rw is at accepted) in rw is (passed.2, passed.3)
