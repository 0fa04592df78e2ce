-- Lines of each version, read.
use Rattle.std.proofs.Common.{arith, ltb-true, ◌≡◌, ◌==◌, ◌&&◌, ℕ, Bool, true, false, List, [], ◌∷◌, length, nat_lt, refl}
use Rattle.std.specs.Fmt.{digits}
use Rattle.std.specs.Prelude.{Option, Some, None, Ok, Err, codes}
use Rattle.std.proofs.lemmas.Bool.{ne_eqb}
use Rattle.hy_base.specs.declared.workload.Client.{Client}
use Rattle.hy_base.specs.declared.record.Isolation.TheVariants.{Serializable, Snapshot}
use Rattle.hy_base.specs.Script.{Workload}
use Rattle.hy_script.specs.Grammar.{AtStart, Shaped, Listing, Programming, plain_mode, begun, last_program_count}
use Rattle.hy_script.specs.ScriptReading.{place_after}
use Rattle.hy_script.specs.declared.why.Why.TheVariants.{Word, Form, Number, Range, Count, Version}

abbrev with_horizon : ℕ → Option ℕ → Workload
with_horizon version horizon = record {
  shape = record { group = 1; window = 1; cap = 8; version = version; horizon = horizon };
  servers = 1;
  keeps = 1;
  tables = 0;
  clients = record { server = 1; programs = [] } ∷ [];
}

abbrev of_version : ℕ → Workload
of_version version = with_horizon version None

first_told : place_after false AtStart (1, codes "shape 1 1 8 1") ≡ Ok (Shaped (of_version 1).shape)
unfolding digits
first_told = refl

first_untold : place_after false AtStart (1, codes "shape 1 1 8") ≡ Ok (Shaped (of_version 1).shape)
unfolding digits
first_untold = refl

second : place_after false AtStart (1, codes "shape 1 1 8 2") ≡ Ok (Shaped (of_version 2).shape)
unfolding digits
second = refl

none : place_after false AtStart (1, codes "shape 1 1 8 0") ≡ Err Range
unfolding digits
none = refl

too_new : place_after false AtStart (1, codes "shape 1 1 8 4") ≡ Err Range
unfolding digits
too_new = refl

no_number : place_after false AtStart (1, codes "shape 1 1 8 02") ≡ Err Number
unfolding digits
no_number = refl

too_many : place_after false AtStart (1, codes "shape 1 1 8 2 8") ≡ Err Form
too_many = refl

-- a horizon behind the version 3, and there alone

third : place_after false AtStart (1, codes "shape 1 1 8 3 9") ≡ Ok (Shaped (with_horizon 3 (Some 9)).shape)
unfolding digits
third = refl

as_long_as_a_window : place_after false AtStart (1, codes "shape 1 1 8 3 1") ≡ Ok (Shaped (with_horizon 3 (Some 1)).shape)
unfolding digits
as_long_as_a_window = refl

longest : place_after false AtStart (1, codes "shape 1 1 8 3 2147483648") ≡ Ok (Shaped (with_horizon 3 (Some 2147483648)).shape)
unfolding digits
longest = refl

too_long : place_after false AtStart (1, codes "shape 1 1 8 3 2147483649") ≡ Err Range
unfolding digits
too_long = refl

too_short : place_after false AtStart (1, codes "shape 2 3 8 3 5") ≡ Err Range
unfolding digits
too_short = refl

no_horizon : place_after false AtStart (1, codes "shape 1 1 8 3 0") ≡ Err Range
unfolding digits
no_horizon = refl

untold : place_after false AtStart (1, codes "shape 1 1 8 3") ≡ Err Form
untold = refl

untold_first : place_after false AtStart (1, codes "shape x 1 8 3") ≡ Err Form
untold_first = refl

behind_a_word : place_after false AtStart (1, codes "shape 1 1 8 x 9") ≡ Err Form
behind_a_word = refl

behind_no_number : place_after false AtStart (1, codes "shape 1 1 8 03 9") ≡ Err Form
behind_no_number = refl

behind_another : place_after false AtStart (1, codes "shape x 1 8 4 9") ≡ Err Form
behind_another = refl

blank_horizon : place_after false AtStart (1, codes "shape x 1 8 3 ") ≡ Err Form
blank_horizon = refl

seven_words : place_after false AtStart (1, codes "shape 1 1 8 3 9 9") ≡ Err Form
seven_words = refl

horizon_of_no_number : place_after false AtStart (1, codes "shape 0 1 8 3 09") ≡ Err Number
unfolding digits
horizon_of_no_number = refl

other_number_first : place_after false AtStart (1, codes "shape x 1 8 3 0") ≡ Err Number
unfolding digits
other_number_first = refl

-- isolations

begins_snapshot : place_after false (Listing (of_version 2)) (4, codes "begin snapshot") ≡ Ok (Programming (of_version 2) (begun (plain_mode Snapshot)))
begins_snapshot = refl

begins : place_after false (Listing (of_version 2)) (4, codes "begin") ≡ Ok (Programming (of_version 2) (begun (plain_mode Serializable)))
begins = refl

begins_snapshot_later : place_after false (Listing (with_horizon 3 (Some 9))) (4, codes "begin snapshot") ≡ Ok (Programming (with_horizon 3 (Some 9)) (begun (plain_mode Snapshot)))
begins_snapshot_later = refl

early : place_after false (Listing (of_version 1)) (4, codes "begin snapshot") ≡ Err Version
early = refl

other_word : place_after false (Listing (of_version 2)) (4, codes "begin foo") ≡ Err Form
other_word = refl

more_words : place_after false (Listing (of_version 1)) (4, codes "begin snapshot 1") ≡ Err Form
more_words = refl

no_client : place_after false (Listing (record { shape = (of_version 2).shape; servers = 1; keeps = 1; tables = 0; clients = [] })) (3, codes "begin snapshot") ≡ Err Word
no_client = refl

blank_word : place_after false (Listing (of_version 2)) (4, codes "begin ") ≡ Err Form
blank_word = refl

some_told : (t : Bool) (clients : List Client) → nat_lt 0 (length clients) ≡ true → t && (length clients == 0) ≡ false
some_told true clients some = ne_eqb (length clients) 0 (λ e. omega (arith, e, ltb-true 0 (length clients) some))
some_told false clients some = refl

-- a client with all its programs has room for none, whatever the version
full_first : (script : Workload) → nat_lt 0 (length script.clients) ≡ true → nat_lt (last_program_count script.clients) 10000 ≡ false → place_after false (Listing script) (4, codes "begin snapshot") ≡ Err Count
full_first script some full = rw (some_told (script.tables == 0) script.clients some, some, full) refl
