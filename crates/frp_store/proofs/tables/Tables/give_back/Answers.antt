use Rattle.std.proofs.Common.{◌≡◌, [], ◌∷◌, sym, ap, ◌∙◌, subst}
use Rattle.frp_store.specs.declared.tables.Tables.{Tables}
use Rattle.frp_store.specs.Lists.{nodes_of}
use Rattle.frp_store.specs.Undo.{given}
use Rattle.frp_store.specs.Kept.{IsFindable}
use Rattle.frp_store.proofs.Taking.{no_items}
use Rattle.frp_store.proofs.Reopening.{given_more, given_nothing, given_nodes}
use Rattle.frp_store.proofs.tables.Tables.give_back.Goals as goal

pub loop-fact-preserved : goal.loop-fact-preserved
loop-fact-preserved c =
    let old = c.loop-fact.self in
    let new = c.give.new.self in
    let left = c.pop.new.self.items in
    let fact = c.in-Some.fact in
    record {
      findable = subst (λ ns. IsFindable ns new.edges.index) (sym (ap nodes_of c.give.ensures.held ∙ given_nodes (fact ∷ []) old.held.items))
          (subst (λ (t : Tables). IsFindable (nodes_of old.held.items) t.edges.index) (sym c.give.ensures.rest) c.loop-fact.invariant.findable);
      held =
          ap (given left) c.give.ensures.held ∙ sym (given_more left fact old.held.items) ∙ ap (λ fs. given fs old.held.items) (sym c.in-Some.ensures.items)
          ∙ c.loop-fact.invariant.held;
      rest = c.give.ensures.rest ∙ ap (λ (t : Tables). record t { held = new.held }) c.loop-fact.invariant.rest;
    }

pub returns-clause-held : goal.returns-clause-held
returns-clause-held c =
    let l = c.loop-fact in
    let none : l.facts.items ≡ [] = no_items l.facts.items (sym l.facts.ok.0 ∙ c.in_default.ensures.cases.0) in
    sym (ap (λ fs. given fs l.self.held.items) none ∙ given_nothing l.self.held.items) ∙ l.invariant.held
