use Rattle.std.proofs.Common.{◌≡◌, ◌++◌, ℕ, List, Option, Some, None, ap, sym, subst, refl, ◌∙◌}
use Rattle.std.specs.Prelude.{Ok}
use mathlib.Core.List.{IsPrefix}
use Rattle.hy_hist.proofs.Lists.{prefix_trans}
use Rattle.hy_hub.specs.declared.occurrence.Occurrence.{Occurrence}
use Rattle.hy_hub.specs.Trace.{is_out}
use Rattle.hy_hub.proofs.WrittenOut.{written_later, lands_home, lifts_grow, leaves_is, home_lands, lift_some, lift_stays, lift_within}
use Rattle.hy_hub.proofs.Holding.{same_done}
use Rattle.hy_hub.proofs.Marks.{done_lift}
use Rattle.hy_disk.specs.Moments.{LeavesSince}
use Rattle.hy_hist.specs.Passes.{IsAmong, AreOwn}
use Rattle.hy_hist.proofs.Lists.{prefix_self}
use Rattle.hy_hub.proofs.Alone.{landed_of_lift, home_alone, leaves_alone}
use Rattle.hy_hub.proofs.Waiting.{waits_unclaimed, comes_twice, same_waits}
use Rattle.hy_hub.specs.Shown.{NobodyComes}
use Rattle.hy_hub.proofs.hub.Hub.land_others.Goals as goal

-- with all parts nobody waits while a call writes the batches of others
none_waits : (waiting known : List ℕ) (claimed of : Option ℕ) → waiting ≡ known → AreOwn claimed known → claimed ≡ None → (n : ℕ) → IsAmong n waiting → of ≡ Some n
none_waits waiting known claimed of shows own none n among = absurd (cc (sym none ∙ own.each n (subst (IsAmong n) shows among)))

pub land_written-requires-clause-written : goal.land_written-requires-clause-written
land_written-requires-clause-written g c =
    let h = c.hold-contents.ensures in
    rw h.list (written_later g.D.Disk.tells g.D.Disk.content (LeavesSince g.D.Disk.moment g.D.Disk.left_since g.B.Since.moment g.B.Since.left) g.B.Since.least g.D.Disk.faults_of c.args.pass.now.seen c.hold-contents.new.pass.seen c.args.flight.log _ (lift_some c.args.flight.lift c.args.pass.now.seen c.requires.lift) h.grown (h.part c.requires.pass.2).1 c.requires.written)

pub lift-lifted-requires : goal.lift-lifted-requires
lift-lifted-requires g c =
    let lands = c.land_written.ensures.lands in
    record { running = (home_lands c.args.at c.hold-contents.result.list lands.0 c.land_written.new.self.list lands.1 lands.2).1 }

pub come_home-requires-clause-mine : goal.come_home-requires-clause-mine
come_home-requires-clause-mine g c =
    let h = c.hold-contents.ensures in
    let lands = c.land_written.ensures.lands in
    let past : IsPrefix c.args.pass.now.seen c.land_written.new.self.list = prefix_trans c.args.pass.now.seen c.hold-contents.new.pass.seen c.land_written.new.self.list h.grown (lands.0, ap (λ l. l ++ lands.0) (sym h.list) ∙ sym lands.1) in
    lift_within c.args.flight.lift c.args.pass.now.seen c.land_written.new.self.list past c.requires.lift

pub come_home-requires-2-clause-grown : goal.come_home-requires-2-clause-grown
come_home-requires-2-clause-grown g c =
    let h = c.hold-contents.ensures in
    let lands = c.land_written.ensures.lands in
    let lifts = lifts_grow g.D.Disk.tells (LeavesSince g.D.Disk.moment g.D.Disk.left_since g.B.Since.moment g.B.Since.left) g.B.Since.least g.D.Disk.faults_of c.land_written.new.self.list c.lift-lifted.new.self.list c.lift-lifted.result c.lift-lifted.ensures.lifts in
    prefix_trans c.hold-contents.new.pass.seen c.land_written.new.self.list c.lift-lifted.new.self.list (lands.0, ap (λ l. l ++ lands.0) (sym h.list) ∙ sym lands.1) lifts

pub come_home-requires-2-clause-mine : goal.come_home-requires-2-clause-mine
come_home-requires-2-clause-mine g c =
    let h = c.hold-contents.ensures in
    let lands = c.land_written.ensures.lands in
    let past : IsPrefix c.args.pass.now.seen c.land_written.new.self.list = prefix_trans c.args.pass.now.seen c.hold-contents.new.pass.seen c.land_written.new.self.list h.grown (lands.0, ap (λ l. l ++ lands.0) (sym h.list) ∙ sym lands.1) in
    let lifts = lifts_grow g.D.Disk.tells (LeavesSince g.D.Disk.moment g.D.Disk.left_since g.B.Since.moment g.B.Since.left) g.B.Since.least g.D.Disk.faults_of c.land_written.new.self.list c.lift-lifted.new.self.list c.lift-lifted.result c.lift-lifted.ensures.lifts in
    lift_within c.args.flight.lift c.args.pass.now.seen c.lift-lifted.new.self.list (prefix_trans c.args.pass.now.seen c.land_written.new.self.list c.lift-lifted.new.self.list past lifts) c.requires.lift

pub returns-then-not-goes_on : goal.returns-then-not-goes_on
returns-then-not-goes_on g c =
    let h = c.hold-contents.ensures in
    let p = c.come_home.ensures in
    let lands = c.land_written.ensures.lands in
    let home = c.land_written.new.self.list in
    let both = home_lands c.args.at c.hold-contents.result.list lands.0 home lands.1 lands.2 in
    let landed = ap is_out lands.1 ∙ lands_home (Ok c.args.at) c.hold-contents.result.list lands.0 lands.2 in
    let more : IsPrefix c.hold-contents.new.pass.seen home = (lands.0, ap (λ l. l ++ lands.0) (sym h.list) ∙ sym lands.1) in
    let longer : IsPrefix c.hold-contents.new.pass.seen c.come_home.new.pass.seen = subst (λ (l : List Occurrence). IsPrefix c.hold-contents.new.pass.seen l) (sym p.seen) more in
    let at = lift_stays c.args.flight.lift c.args.pass.now.seen c.come_home.new.pass.seen (prefix_trans c.args.pass.now.seen c.hold-contents.new.pass.seen c.come_home.new.pass.seen h.grown longer) c.requires.lift in
    record {
      lands = record {
        home = home;
        past = prefix_trans c.args.pass.now.seen c.hold-contents.new.pass.seen home h.grown more;
        landed = both.0;
        running = both.1;
        leaves_it = ((p.kept.0 ∙ (h.kept.0 ∙ c.requires.pass.0), p.idle, p.carries ∙ landed), p.seen);
        told = p.told;
        parts = p.kept.1 ∙ h.kept.1;
      };
      makes = done_lift c.hold-contents.new.pass c.come_home.new.pass longer c.args.flight.lift at.0 at.1 p.order ∙ same_done c.args.pass.now c.hold-contents.new.pass h.made;
      claim = p.claim;
      last = λ e. refl;
      alone = λ of is from lifted led.
          let own = rw h.list at lands in
          let alone : c.args.pass.now.parts ≡ c.args.self.now.parts → c.hold-contents.new.pass.seen ≡ c.args.pass.now.seen = rw (← c.self.view_is) h.whole in
          let whole = alone is in
          let nobody : c.args.pass.now.parts ≡ c.args.self.now.parts → AreOwn c.args.pass.now.claim c.hold-contents.new.pass.waiting = rw (← c.self.view_is) h.own in
          let wrote = rw h.list at c.batch_waits.ensures in
          home_alone of from (Some c.args.flight.lift) (Some c.args.flight.lift) c.args.pass.now c.hold-contents.new.pass c.come_home.new.pass own.0 c.come_home.new.pass.seen whole h.made p.made (prefix_self c.come_home.new.pass.seen) (p.seen ∙ own.1) (λ k e. e) (landed_of_lift of c.hold-contents.result.waiting c.args.at c.hold-contents.new.pass.seen own.0 (none_waits _ _ _ _ h.waiting (nobody is) c.requires.claim) wrote own.2) lifted led;
    }

pub returns-clause-lands : goal.returns-clause-lands
returns-clause-lands g c =
    let h = c.hold-contents.ensures in
    let p = c.come_home-2.ensures in
    let lands = c.land_written.ensures.lands in
    let home = c.land_written.new.self.list in
    let both = home_lands c.args.at c.hold-contents.result.list lands.0 home lands.1 lands.2 in
    let landed = ap is_out lands.1 ∙ lands_home (Ok c.args.at) c.hold-contents.result.list lands.0 lands.2 in
    record {
      home = home;
      past = prefix_trans c.args.pass.now.seen c.hold-contents.new.pass.seen home h.grown (lands.0, ap (λ l. l ++ lands.0) (sym h.list) ∙ sym lands.1);
      landed = both.0;
      running = both.1;
      leaves_it = leaves_is g.D.Disk.tells (LeavesSince g.D.Disk.moment g.D.Disk.left_since g.B.Since.moment g.B.Since.left) g.B.Since.least g.D.Disk.faults_of c.args.self.now c.lift-lifted.result c.come_home-2.new.pass home c.lift-lifted.new.self.list (p.kept.0 ∙ (h.kept.0 ∙ c.requires.pass.0)) p.idle landed p.seen p.carries c.lift-lifted.ensures.lifts;
      told = p.told;
      parts = p.kept.1 ∙ h.kept.1;
    }

pub returns-clause-makes : goal.returns-clause-makes
returns-clause-makes g c =
    let h = c.hold-contents.ensures in
    let p = c.come_home-2.ensures in
    let lands = c.land_written.ensures.lands in
    let home = c.land_written.new.self.list in
    let more : IsPrefix c.hold-contents.new.pass.seen home = (lands.0, ap (λ l. l ++ lands.0) (sym h.list) ∙ sym lands.1) in
    let lifts = lifts_grow g.D.Disk.tells (LeavesSince g.D.Disk.moment g.D.Disk.left_since g.B.Since.moment g.B.Since.left) g.B.Since.least g.D.Disk.faults_of home c.lift-lifted.new.self.list c.lift-lifted.result c.lift-lifted.ensures.lifts in
    let longer : IsPrefix c.hold-contents.new.pass.seen c.come_home-2.new.pass.seen = subst (λ (l : List Occurrence). IsPrefix c.hold-contents.new.pass.seen l) (sym p.seen) (prefix_trans c.hold-contents.new.pass.seen home c.lift-lifted.new.self.list more lifts) in
    let at = lift_stays c.args.flight.lift c.args.pass.now.seen c.come_home-2.new.pass.seen (prefix_trans c.args.pass.now.seen c.hold-contents.new.pass.seen c.come_home-2.new.pass.seen h.grown longer) c.requires.lift in
    done_lift c.hold-contents.new.pass c.come_home-2.new.pass longer c.args.flight.lift at.0 at.1 p.order ∙ same_done c.args.pass.now c.hold-contents.new.pass h.made

pub returns-clause-alone : goal.returns-clause-alone
returns-clause-alone g c = λ of is from lifted led.
    let h = c.hold-contents.ensures in
    let p = c.come_home-2.ensures in
    let lands = c.land_written.ensures.lands in
    let home = c.land_written.new.self.list in
    let own = rw h.list at lands in
    let alone : c.args.pass.now.parts ≡ c.args.self.now.parts → c.hold-contents.new.pass.seen ≡ c.args.pass.now.seen = rw (← c.self.view_is) h.whole in
    let whole = alone is in
    let nobody : c.args.pass.now.parts ≡ c.args.self.now.parts → AreOwn c.args.pass.now.claim c.hold-contents.new.pass.waiting = rw (← c.self.view_is) h.own in
    let wrote = rw h.list at c.batch_waits.ensures in
    let landed = ap is_out lands.1 ∙ lands_home (Ok c.args.at) c.hold-contents.result.list lands.0 lands.2 in
    let lifts = lifts_grow g.D.Disk.tells (LeavesSince g.D.Disk.moment g.D.Disk.left_since g.B.Since.moment g.B.Since.left) g.B.Since.least g.D.Disk.faults_of home c.lift-lifted.new.self.list c.lift-lifted.result c.lift-lifted.ensures.lifts in
    let longer = subst (λ (l : List Occurrence). IsPrefix home l) (sym p.seen) lifts in
    let r = home_alone of from (Some c.args.flight.lift) (Some c.args.flight.lift) c.args.pass.now c.hold-contents.new.pass c.come_home-2.new.pass own.0 home whole h.made p.made longer own.1 (λ k e. e) (landed_of_lift of c.hold-contents.result.waiting c.args.at c.hold-contents.new.pass.seen own.0 (none_waits _ _ _ _ h.waiting (nobody is) c.requires.claim) wrote own.2) lifted led in
    (r.0, leaves_alone of g.D.Disk.tells (LeavesSince g.D.Disk.moment g.D.Disk.left_since g.B.Since.moment g.B.Since.left) g.B.Since.least g.D.Disk.faults_of c.args.self.now c.lift-lifted.result home c.come_home-2.new.pass from (leaves_is g.D.Disk.tells (LeavesSince g.D.Disk.moment g.D.Disk.left_since g.B.Since.moment g.B.Since.left) g.B.Since.least g.D.Disk.faults_of c.args.self.now c.lift-lifted.result c.come_home-2.new.pass home c.lift-lifted.new.self.list (p.kept.0 ∙ (h.kept.0 ∙ c.requires.pass.0)) p.idle landed p.seen p.carries c.lift-lifted.ensures.lifts) r.1)

pub come_home-requires-clause-waits : goal.come_home-requires-clause-waits
come_home-requires-clause-waits g c =
    let h = c.hold-contents.ensures in
    waits_unclaimed _ _ _ _ (subst (λ ns. NobodyComes ns c.land_written.new.self.waiting) h.waiting c.land_written.ensures.waits) (h.claim ∙ c.requires.claim)

pub come_home-requires-2-clause-waits : goal.come_home-requires-2-clause-waits
come_home-requires-2-clause-waits g c =
    let h = c.hold-contents.ensures in
    waits_unclaimed _ _ _ _ (comes_twice _ _ _ (subst (λ ns. NobodyComes ns c.land_written.new.self.waiting) h.waiting c.land_written.ensures.waits) (same_waits _ _ c.lift-lifted.ensures.waits)) (h.claim ∙ c.requires.claim)
