use Rattle.std.proofs.Common.{◌≡◌, ◌≢◌, ◌++◌, ◌∷◌, [], true, map, sym, ap, ◌∙◌, subst, inl, inr, arith}
use Rattle.frp_rank.specs.Chain.{is_linked, is_path, first_or, numbers}
use Rattle.frp_rank.specs.Graph.{live_links}
use Rattle.frp_rank.proofs.Paths.{path_more, first_more, numbers_push}
use Rattle.frp_rank.proofs.search.Search.way.Goals as goal

pub loop-at-preserved : goal.loop-at-preserved
loop-at-preserved c =
    let links = live_links c.args.self.now.edges.now.items in
    let more : numbers c.push.new.self.items ≡ numbers c.loop-at.places.items ++ c.loop-at.at ∷ [] = rw c.in_ok-push.ensures.items (numbers_push c.loop-at.places.items _) in
    elim c.next-at.ensures [
      | inl e ↦ absurd (c.loop-at-test.true e)
      | inr (linked, visited) ↦ record {
        path = rw more (path_more (is_linked links) (numbers c.loop-at.places.items) c.loop-at.at c.next-at.result c.loop-at.invariant.path linked);
        first = rw more (first_more (numbers c.loop-at.places.items) c.loop-at.at c.next-at.result ∙ c.loop-at.invariant.first);
        visited = visited;
      }
    ]

pub loop-at-smaller : goal.loop-at-smaller
loop-at-smaller c =
    elim c.next-at.ensures [
      | inl e ↦ absurd (c.loop-at-test.true e)
      | inr (linked, visited) ↦ c.requires.able.lower c.loop-at.at c.next-at.result linked
    ]
