-- Where true evidence shows that a transaction is endless, its last time is a moment that the program has: all of it is settled.
use Rattle.std.proofs.Common.{◌≡◌, ℕ, true, false, List, [], ◌∷◌, Option, Some, None, sym, ap, ◌∙◌}
use Rattle.std.specs.List.{AllByRecursion}
use Rattle.frp_base.specs.declared.name.Name.{Name}
use Rattle.frp_graph.specs.declared.prog.Prog.{Prog}
use Rattle.frp_graph.specs.declared.limits.Limits.{Limits}
use Rattle.frp_graph.specs.declared.trace.Node.{Node}
use Rattle.frp_graph.specs.declared.trace.Moment.{Moment}
use Rattle.frp_graph.specs.declared.trace.Sent.{Sent}
use Rattle.frp_graph.specs.declared.evidence.Evidence.{Evidence}
use Rattle.frp_graph.specs.declared.evidence.Phase.TheVariants.{Birth}
use Rattle.frp_graph.specs.Trace.{Sight, sight_of}
use Rattle.frp_graph.specs.Births.{Plan, plan_as}
use Rattle.frp_graph.specs.Evidence.{is_below, LeadsToChain, HasFirstAs, IsEndless, MeetsRules}
use Rattle.frp_graph.specs.FirstValues.{IsMadeAs, IsBornAs}
use Rattle.frp_graph.specs.Links.{is_linked, is_closed_chain}
use Rattle.frp_graph.specs.Moments.{IsMoment}
use Rattle.frp_graph.specs.TypedProg.{IsTypedProg}
use Rattle.frp_audit.proofs.Pasts.{Earlier, IsPast}
use Rattle.frp_audit.proofs.Evident as evident

module _ (prog : Prog) (typed : IsTypedProg prog) (limits : Limits) (sends : List Sent) (k : ℕ) (past : List Moment) (e : Evidence)
    (rules : MeetsRules prog limits sends k past e)
    (is_past : IsPast prog past) (earlier : Earlier e.last.time past) (limit : ℕ)
    (shows : IsEndless prog sends (sight_of past e.last) e.last (is_below e.ranks e.level) limits k past e.done limit) where
  abbrev w : Sight
  w = sight_of past e.last

  unled : (n : Name) → LeadsToChain (is_linked w Birth) n → ⊥
  unled n l =
      let none : is_closed_chain (is_linked w Birth) (l.first ∷ l.others) ≡ false = shows.chainless Birth (l.first ∷ l.others) in
      let some : is_closed_chain (is_linked w Birth) (l.first ∷ l.others) ≡ true = l.closed in
      cc

  born_as : (o : Option Plan) (x : Node) → IsMadeAs o x → HasFirstAs prog w o x → IsBornAs prog w o x
  born_as None x m f = m
  born_as (Some d) x m f = record { made = m; first = f.there (unled x.name) }

  all_born : (xs : List Node) → AllByRecursion (λ x. IsMadeAs (plan_as prog w x.name) x) xs
      → AllByRecursion (λ x. HasFirstAs prog w (plan_as prog w x.name) x) xs
      → AllByRecursion (λ x. IsBornAs prog w (plan_as prog w x.name) x) xs
  all_born [] m f = tt
  all_born (x ∷ xs) m f = (born_as (plan_as prog w x.name) x m.0 f.0, all_born xs m.1 f.1)

  is_below_too : (n : Name) (x : Node) → w.node n ≡ Some x → is_below e.ranks e.level n ≡ true
  is_below_too n x live =
      ap (is_below e.ranks e.level) (sym ((evident.ew prog typed limits sends k past e rules is_past earlier).named n x live)) ∙ shows.all_below n x live

  pub happens : IsMoment prog sends past e.last
  happens = record {
    born_exactly = record {
      each_is_made = all_born e.last.born rules.births.consists rules.firsts.firsts;
      each_is_born = λ n x live. evident.below_born prog typed limits sends k past e rules is_past earlier n x live (is_below_too n x live);
      file_is_born = rules.births.file;
    };
    equations = λ n x live. rules.settled.equations n x live (shows.all_below n x live);
    facts_of_live = evident.only prog typed limits sends k past e rules is_past earlier;
    born_rise = rules.births.born_rise;
    fired_rise = rules.settled.fired_rise;
  }
