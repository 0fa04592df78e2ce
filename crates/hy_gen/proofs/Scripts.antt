-- The script of a load keeps the ranges of a script.
use Rattle.std.proofs.Common.{◌≡◌, ℕ, zero, suc, ◌+◌, ◌-◌, ◌*◌, ◌%◌, ◌<◌, ◌≤◌, ◌^◌, Bool, true, false, List, [], ◌∷◌, length, arith, refl}
use Rattle.std.specs.Prelude.{if◌then◌else◌, All, ◌==◌, ◌&&◌, count_by, map, nat_le, nat_lt, IsTrue}
use Rattle.std.specs.List.{AllByRecursion, list_all, range_with_len}
use Rattle.std.proofs.lemmas.List.Elements.{All-map, All-cons, All-nil}
use Rattle.std.proofs.lemmas.List.FromFn.{length-map-range_with_len}
use Rattle.std.proofs.lemmas.List.Sums.{count_by-le-length}
use Rattle.hy_base.specs.declared.workload.Command.{Command}
use Rattle.hy_base.specs.declared.workload.Command.TheVariants.{Get, Put, Add, Scan}
use Rattle.hy_base.specs.declared.workload.Client.{Client}
use Rattle.hy_base.specs.Entry.{is_told}
use Rattle.hy_base.specs.declared.layout.Shape.{Shape}
use Rattle.hy_base.specs.declared.workload.Mode.{Mode}
use Rattle.hy_base.specs.Script.{AreTold, AskForGroups, IsAsOf, IsScript, IsClient, IsProgram, IsCommand, FitsTables, ClientFitsTables, command_count, home_of, mode_of}
use Rattle.hy_base.specs.Limits.{largest_load}
use Rattle.hy_base.proofs.TableLemmas.{no_table_key}
use Rattle.hy_gen.specs.declared.drawing.Draw.{Draw}
use Rattle.hy_gen.specs.Draws.{draw_of}
use Rattle.hy_gen.specs.Load.{value_numbered, commands_of, program_numbered, programs_of, program_count, client_of, shape_for, script_of}
use Rattle.hy_gen.proofs.Values.{letter_and_number}

-- a list of commands, each of them one
pub record AreCommands (cs : List Command) : Type 0 where
  pub count : command_count cs ≤ 64
  pub commands : All IsCommand cs
  pub fits : All (FitsTables 0) cs

two : (a b : Command) → command_count (a ∷ b ∷ []) ≡ 2 → IsCommand a → IsCommand b → FitsTables 0 a → FitsTables 0 b → AreCommands (a ∷ b ∷ [])
two a b count first second one other = record {
  count = omega (arith, count);
  commands = All-cons IsCommand a (b ∷ []) first (All-cons IsCommand b [] second (All-nil IsCommand));
  fits = All-cons (FitsTables 0) a (b ∷ []) one (All-cons (FitsTables 0) b [] other (All-nil (FitsTables 0)));
}

by_kind : (number key other : ℕ) (zeroth first second : Bool) → number < 2 ^ 64
    → AreCommands (if zeroth then Add key 1 ∷ Add other 1 ∷ [] else if first then Get key ∷ Put (500 + other) (value_numbered number) ∷ [] else if second then Scan key (key + 9) 5 ∷ Put (500 + other) (value_numbered number) ∷ [] else Get (500 + other) ∷ [])
by_kind number key other true first second small = two (Add key 1) (Add other 1) refl tt tt (no_table_key key) (no_table_key other)
by_kind number key other false true second small = two (Get key) (Put (500 + other) (value_numbered number)) refl tt (letter_and_number number small) tt (no_table_key (500 + other))
by_kind number key other false false true small =
    two (Scan key (key + 9) 5) (Put (500 + other) (value_numbered number)) refl (omega arith, record { at_least = omega arith; at_most = omega arith }) (letter_and_number number small) tt (no_table_key (500 + other))
by_kind number key other false false false small = record {
  count = let one : command_count (Get (500 + other) ∷ []) ≡ 1 = refl in omega (arith, one);
  commands = All-cons IsCommand (Get (500 + other)) [] tt (All-nil IsCommand);
  fits = All-cons (FitsTables 0) (Get (500 + other)) [] tt (All-nil (FitsTables 0));
}

pub commands_good : (number : ℕ) (d : Draw) → number < 2 ^ 64 → AreCommands (commands_of number d)
commands_good number d small = by_kind number (d.first % 500) (d.second % 500) (d.kind % 4 == 0) (d.kind % 4 == 1) (d.kind % 4 == 2) small

program_good : (seed number : ℕ) → number < 2 ^ 64 → IsProgram (program_numbered seed number)
program_good seed number small = let good = commands_good number (draw_of seed number) small in record { count = good.count; commands = good.commands; reads = λ e. absurd (cc); plain = λ e. absurd (cc) }

-- what holds of each number of a range holds of all
All-range : (P : ℕ → Type 0) (a n : ℕ) → ((k : ℕ) → a ≤ k → k < a + n → P k) → All P (range_with_len a n)
All-range P a zero each = All-nil P
All-range P a (suc n) each = All-cons P a (range_with_len (a + 1) n) (each a (omega arith) (omega arith)) (All-range P (a + 1) n (λ k least most. each k (omega (arith, least)) (omega (arith, most))))

client_good : (seed size number : ℕ) → size ≤ largest_load → 1 ≤ number → number < 9 → IsClient 4 (client_of seed size number)
client_good seed size number few least most = record {
  server = record { at_least = omega (arith, least); at_most = omega (arith, least) };
  count = let all : length (programs_of seed size number) ≡ program_count size number = length-map-range_with_len (λ turn. program_numbered seed (8 * turn + (number - 1))) 0 (program_count size number) in omega (arith, all, few, least);
  programs = All-map IsProgram (λ turn. program_numbered seed (8 * turn + (number - 1))) (range_with_len 0 (program_count size number))
      (All-range (λ turn. IsProgram (program_numbered seed (8 * turn + (number - 1)))) 0 (program_count size number) (λ turn from upto. program_good seed (8 * turn + (number - 1)) (omega (arith, upto, few, most, least))));
}

client_fits : (seed size number : ℕ) → size ≤ largest_load → 1 ≤ number → number < 9 → ClientFitsTables 0 (client_of seed size number)
client_fits seed size number few least most =
    All-map (λ p. All (FitsTables 0) p.commands) (λ turn. program_numbered seed (8 * turn + (number - 1))) (range_with_len 0 (program_count size number))
    (All-range (λ turn. All (FitsTables 0) (program_numbered seed (8 * turn + (number - 1))).commands) 0 (program_count size number)
    (λ turn from upto. (commands_good (8 * turn + (number - 1)) (draw_of seed (8 * turn + (number - 1))) (omega (arith, upto, few, most, least))).fits))

-- Serializable programs can be told in each version
programs_told : (seed number : ℕ) (turns : List ℕ) → IsTrue (list_all (λ m. is_told 1 m.isolation) (map mode_of (map (λ turn. program_numbered seed (8 * turn + (number - 1))) turns)))
programs_told seed number [] = refl
programs_told seed number (turn ∷ turns) = programs_told seed number turns

-- and ask for no position
nothing_asked : (s : Shape) (seed number : ℕ) (turns : List ℕ) → AllByRecursion (λ (m : Mode). IsAsOf s m.as_of) (map mode_of (map (λ turn. program_numbered seed (8 * turn + (number - 1))) turns))
nothing_asked s seed number [] = tt
nothing_asked s seed number (turn ∷ turns) = (tt, nothing_asked s seed number turns)

none_ask : (s : Shape) (seed size : ℕ) (numbers : List ℕ) → AskForGroups s (map home_of (map (client_of seed size) numbers))
none_ask s seed size [] = tt
none_ask s seed size (number ∷ numbers) = (nothing_asked s seed number (range_with_len 0 (program_count size number)), none_ask s seed size numbers)

client_told : (seed size number : ℕ) → AreTold 1 (home_of (client_of seed size number)).programs
client_told seed size number = programs_told seed number (range_with_len 0 (program_count size number))

pub script_good : (seed size : ℕ) → 1 ≤ size → size ≤ largest_load → IsScript (script_of seed size)
script_good seed size least few = record {
  shape = record {
    group = record { at_least = omega arith; at_most = omega arith };
    window = record { at_least = omega arith; at_most = omega arith };
    cap = record { at_least = omega (arith, least); at_most = omega (arith, few) };
    whole_groups = omega arith;
    version = record { at_least = omega arith; at_most = omega arith };
    horizon = tt;
    versioned = refl;
  };
  servers = record { at_least = omega arith; at_most = omega arith };
  keeps = record { at_least = omega arith; at_most = omega arith };
  clients = All-map (IsClient 4) (client_of seed size) (range_with_len 1 8) (All-range (λ number. IsClient 4 (client_of seed size number)) 1 8 (λ number from upto. client_good seed size number few from (omega (arith, upto))));
  tables = omega arith;
  fits_tables = All-map (ClientFitsTables 0) (client_of seed size) (range_with_len 1 8) (All-range (λ number. ClientFitsTables 0 (client_of seed size number)) 1 8 (λ number from upto. client_fits seed size number few from (omega (arith, upto))));
  client_count = λ server.
      let some : count_by (λ (c : Client). c.server == server) (script_of seed size).clients ≤ length (script_of seed size).clients = count_by-le-length (λ (c : Client). c.server == server) (script_of seed size).clients in
      let all : length (script_of seed size).clients ≡ 8 = length-map-range_with_len (client_of seed size) 1 8 in
      omega (arith, some, all);
  isolations = All-map (λ c. AreTold 1 (home_of c).programs) (client_of seed size) (range_with_len 1 8) (All-range (λ number. AreTold 1 (home_of (client_of seed size number)).programs) 1 8 (λ number from upto. client_told seed size number));
  positions = none_ask (shape_for size) seed size (range_with_len 1 8);
}
