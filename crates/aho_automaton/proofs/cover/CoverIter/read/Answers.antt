-- One byte more: what is told of it is joined, where the first run in hand is open.
use Rattle.std.proofs.Common.{◌≡◌, ℕ, ◌+◌, ◌*◌, ◌/◌, ◌<◌, ◌≤◌, List, length, None, refl, sym, ◌∙◌, ap, subst, arith}
use Rattle.aho_core.specs.Laws.{longest, shortest, told}
use Rattle.aho_core.specs.Occurrence.{Occurrence}
use Rattle.aho_core.specs.Patterns.{Patterns}
use Rattle.aho_core.specs.declared.search.Anchored.TheVariants.{No}
use Rattle.aho_core.specs.declared.search.MatchKind.TheVariants.{Standard}
use Rattle.aho_laws.specs.CoverLaws.{AreInOrder, joined_runs}
use Rattle.aho_laws.proofs.SettledRuns.{joined-length}
use Rattle.aho_automaton.specs.Covering.{FirstIsOpen}
use Rattle.aho_automaton.specs.CoverStanding.{CoversUpto}
use Rattle.aho_automaton.proofs.CoverSteps.{read-adds, read-none, read-some}
use Rattle.aho_automaton.proofs.cover.CoverIter.read.Given.{Over}
use Rattle.aho_automaton.proofs.cover.CoverIter.read.Goals.{After-add, After-told, In-Some}
use Rattle.aho_automaton.proofs.cover.CoverIter.read.Goals as goal

-- what adding the match takes, at the patterns that the automaton is of
adds : (g : Over) (c : In-Some g) → AreInOrder c.args.self.now.hand.runs.items c.in-Some.m.end × (c.in-Some.m.start < c.in-Some.m.end)
    × (length (joined_runs c.args.self.now.hand.runs.items c.in-Some.m) ≤ longest (g.A.Automaton.lengths c.args.self.now.walk.automaton.now) / 2 + 1)
adds g c =
    let it = c.args.self.now in
    let a = g.A.Automaton in
    let automaton = it.walk.automaton.now in
    let stands = c.requires.can.stands in
    let is = subst (λ x. c.told.result ≡ told (a.lengths x) No 0 (it.at + 1) (a.list x c.step-self.result)) c.step-self.ensures.same c.told.ensures.told in
    let first : FirstIsOpen (longest (a.lengths automaton)) it.at it.hand.runs.items = subst (λ (far : ℕ). FirstIsOpen far it.at it.hand.runs.items) c.requires.can.far_is c.requires.unsettled in
    read-adds a automaton it.haystack.now stands.0 stands.2 c.requires.can.standard (g.met.A.Automaton.laws automaton stands.0 stands.2) it.sid it.at stands.1 c.step-self.result it.hand.runs.items stands.3
    c.requires.further c.step-self.ensures.valid (c.step-self.ensures.goes_on stands.0 stands.2) first c.requires.can.no_empty c.in-Some.m (sym is ∙ c.in-Some.is)

pub add-requires-clause-in_order : goal.add-requires-clause-in_order
add-requires-clause-in_order g c = (adds g (goal.at.add-requires-clause-in_order g c).In-Some).0

pub add-requires-clause-some : goal.add-requires-clause-some
add-requires-clause-some g c = (adds g (goal.at.add-requires-clause-some g c).In-Some).1

pub add-requires-clause-room : goal.add-requires-clause-room
add-requires-clause-room g c = omega (arith, (adds g (goal.at.add-requires-clause-room g c).In-Some).2, c.requires.can.roomy, ap (λ (far : ℕ). far / 2 + 1) c.requires.can.far_is)

-- the runs that were given, with a match joined
joins : (g : Over) (c : After-add g) (p : Patterns) (n : ℕ) → g.A.Automaton.is_of c.args.self.now.walk.automaton.now p
    → CoversUpto g.A.Automaton c.args.self.now.walk.automaton.now c.args.self.now.haystack.now p c.args.self.now.sid c.args.self.now.at c.args.self.now.hand.runs.items n
    → CoversUpto g.A.Automaton c.step-self.new.self.automaton.now c.args.self.now.haystack.now p c.step-self.result (c.args.self.now.at + 1) c.add.new.self.runs.items n
joins g c p n of h =
    let it = c.args.self.now in
    let a = g.A.Automaton in
    let automaton = it.walk.automaton.now in
    let same = c.step-self.ensures.same in
    let is = subst (λ x. c.told.result ≡ told (a.lengths x) No 0 (it.at + 1) (a.list x c.step-self.result)) same c.told.ensures.told in
    let first : FirstIsOpen (longest (a.lengths automaton)) it.at it.hand.runs.items = subst (λ (far : ℕ). FirstIsOpen far it.at it.hand.runs.items) c.requires.can.far_is c.requires.unsettled in
    subst (λ x. CoversUpto a x it.haystack.now p c.step-self.result (it.at + 1) c.add.new.self.runs.items n) (sym same)
    (subst (λ (runs : List Occurrence). CoversUpto a automaton it.haystack.now p c.step-self.result (it.at + 1) runs n) (sym c.add.ensures.joined)
    (read-some a automaton it.haystack.now p of c.requires.can.standard (g.met.A.Automaton.laws automaton p of) it.sid it.at n c.step-self.result it.hand.runs.items h c.requires.further c.step-self.ensures.valid
    (c.step-self.ensures.goes_on p of) first c.requires.can.no_empty c.in-Some.m (sym is ∙ c.in-Some.is)))

pub returns-in-Some-clause-can : goal.returns-in-Some-clause-can
returns-in-Some-clause-can g c =
    let a = g.A.Automaton in
    let it = c.args.self.now in
    let back = sym c.step-self.ensures.same in
    let stands = c.requires.can.stands in
    record {
      standard = subst (λ x. a.kind x ≡ Standard) back c.requires.can.standard;
      no_empty = subst (λ x. 1 ≤ shortest (a.lengths x)) back c.requires.can.no_empty;
      far_is = subst (λ x. it.far ≡ longest (a.lengths x)) back c.requires.can.far_is;
      stands = (stands.0, stands.1, subst (λ x. a.is_of x stands.0) back stands.2, joins g c stands.0 stands.1 stands.2 stands.3);
      roomy = c.add.ensures.same_room ∙ c.requires.can.roomy;
      cheap = subst (λ x. c.step-self.new.self.work + a.depth x c.step-self.result ≤ 2 * (it.at + 1)) back (omega (arith, c.step-self.ensures.cost, c.requires.can.cheap));
    }

pub returns-in-Some-clause-reads : goal.returns-in-Some-clause-reads
returns-in-Some-clause-reads g c =
    record {
      over = record { same_automaton = c.step-self.ensures.same; same_haystack = refl };
      given = joins g c;
      no_more = omega (arith, joined-length c.args.self.now.hand.runs.items c.in-Some.m, ap length c.add.ensures.joined, c.requires.further);
    }

-- the same runs, where nothing is told
keeps : (g : Over) (c : After-told g) → c.told.result ≡ None → (p : Patterns) (n : ℕ) → g.A.Automaton.is_of c.args.self.now.walk.automaton.now p
    → CoversUpto g.A.Automaton c.args.self.now.walk.automaton.now c.args.self.now.haystack.now p c.args.self.now.sid c.args.self.now.at c.args.self.now.hand.runs.items n
    → CoversUpto g.A.Automaton c.step-self.new.self.automaton.now c.args.self.now.haystack.now p c.step-self.result (c.args.self.now.at + 1) c.args.self.now.hand.runs.items n
keeps g c none p n of h =
    let it = c.args.self.now in
    let a = g.A.Automaton in
    let automaton = it.walk.automaton.now in
    let same = c.step-self.ensures.same in
    let is = subst (λ x. c.told.result ≡ told (a.lengths x) No 0 (it.at + 1) (a.list x c.step-self.result)) same c.told.ensures.told in
    let first : FirstIsOpen (longest (a.lengths automaton)) it.at it.hand.runs.items = subst (λ (far : ℕ). FirstIsOpen far it.at it.hand.runs.items) c.requires.can.far_is c.requires.unsettled in
    subst (λ x. CoversUpto a x it.haystack.now p c.step-self.result (it.at + 1) it.hand.runs.items n) (sym same)
    (read-none a automaton it.haystack.now p of c.requires.can.standard (g.met.A.Automaton.laws automaton p of) it.sid it.at n c.step-self.result it.hand.runs.items h c.requires.further c.step-self.ensures.valid
    (c.step-self.ensures.goes_on p of) first (sym is ∙ none))

pub returns-in_default-clause-can : goal.returns-in_default-clause-can
returns-in_default-clause-can g c =
    let d = (goal.at.returns-in_default-clause-can g c).After-told in
    let a = g.A.Automaton in
    let it = c.args.self.now in
    let back = sym c.step-self.ensures.same in
    let stands = c.requires.can.stands in
    record {
      standard = subst (λ x. a.kind x ≡ Standard) back c.requires.can.standard;
      no_empty = subst (λ x. 1 ≤ shortest (a.lengths x)) back c.requires.can.no_empty;
      far_is = subst (λ x. it.far ≡ longest (a.lengths x)) back c.requires.can.far_is;
      stands = (stands.0, stands.1, subst (λ x. a.is_of x stands.0) back stands.2, keeps g d c.in_default.is stands.0 stands.1 stands.2 stands.3);
      roomy = c.requires.can.roomy;
      cheap = subst (λ x. c.step-self.new.self.work + a.depth x c.step-self.result ≤ 2 * (it.at + 1)) back (omega (arith, c.step-self.ensures.cost, c.requires.can.cheap));
    }

pub returns-in_default-clause-reads : goal.returns-in_default-clause-reads
returns-in_default-clause-reads g c =
    let d = (goal.at.returns-in_default-clause-reads g c).After-told in
    record {
      over = record { same_automaton = c.step-self.ensures.same; same_haystack = refl };
      given = keeps g d c.in_default.is;
      no_more = omega (arith, c.requires.further);
    }
