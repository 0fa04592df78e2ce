-- What waits is spelled in the version of the log, and each program's isolation is one that this version can tell.
use Rattle.std.proofs.Common.{◌≡◌, ℕ, zero, suc, true, List, [], ◌∷◌, Some, ap, sym, ◌∙◌, subst}
use Rattle.std.specs.Prelude.{option_map}
use Rattle.std.specs.List.{AllByRecursion, list_all}
use Rattle.std.proofs.lemmas.Bool.{and_parts}
use Rattle.hy_base.specs.declared.record.Isolation.{Isolation}
use Rattle.hy_base.specs.declared.record.EntryKind.{EntryKind}
use Rattle.hy_base.specs.declared.record.EntryKind.TheVariants.{Filler, Txn}
use Rattle.hy_base.specs.declared.workload.Home.{Home}
use Rattle.hy_base.specs.declared.workload.Mode.{Mode}
use Rattle.hy_base.specs.declared.workload.Session.{Session}
use Rattle.hy_base.specs.Entry.{FitsVersion, is_told}
use Rattle.hy_base.specs.Lists.{nth}
use Rattle.hy_base.specs.Script.{AreTold}
use Rattle.hy_base.proofs.NthLemmas.{All-nth}
use Rattle.hy_rules.specs.Moves.{isolation_by}
use Rattle.hy_hub.specs.declared.contents.Contents.TheInside.{Inside}
use Rattle.hy_hub.specs.Entries.{isolation_of_entry}
use Rattle.hy_hub.specs.Hub.{IsInVersion}

-- the isolation of one of the modes is told
told_at : (version : ℕ) (modes : List Mode) (n : ℕ) (isolation : Isolation) → list_all (λ (m : Mode). is_told version m.isolation) modes ≡ true → option_map (λ (m : Mode). m.isolation) (nth modes n) ≡ Some isolation → is_told version isolation ≡ true
told_at version [] zero isolation all e = absurd (cc)
told_at version [] (suc n) isolation all e = absurd (cc)
told_at version (m ∷ ms) zero isolation all e = absurd (cc)
told_at version (m ∷ ms) (suc zero) isolation all e = let same : m.isolation ≡ isolation = cc e in ap (is_told version) (sym same) ∙ (and_parts (is_told version m.isolation) _ all).0
told_at version (m ∷ ms) (suc (suc n)) isolation all e = told_at version ms (suc n) isolation (and_parts (is_told version m.isolation) _ all).1 e

module _ {D B : Type 0} {version : ℕ} {c : Inside D B} (is : IsInVersion version c) where
  -- an entry at the isolation of a client's program has a spelling
  pub entry_fits : (client : ℕ) (home : Home) (session : Session) (entry : EntryKind) → nth c.homes.items client ≡ Some home → isolation_by home session ≡ isolation_of_entry entry → FitsVersion version entry
  entry_fits client home session (Filler server) h e = tt
  entry_fits client home session (Txn i) h e = told_at version home.programs session.next i.isolation (All-nth (λ (home : Home). AreTold version home.programs) c.homes.items client home h is.told) e

  -- what waits, by the log's shape
  pub waits_here : AllByRecursion (λ a. a.version ≡ c.shape.version) c.waiting.items
  waits_here = subst (λ (v : ℕ). AllByRecursion (λ a. a.version ≡ v) c.waiting.items) (sym is.shape) is.waits
