use Rattle.std.proofs.Common.{◌≡◌, ◌<◌, ◌-◌, ◌++◌, ◌∷◌, [], length, take, ap, ◌∙◌, arith}
use Rattle.frp_order.specs.Search.{state_of}
use Rattle.frp_order.proofs.Steps.{finishing, in_marks}
use Rattle.frp_order.proofs.search.Search.finish.Goals as goal

pub index_mut-requires : goal.index_mut-requires
index_mut-requires c =
    let s = state_of c.args.self.now in
    let h : c.args.place < length s.marks = in_marks c.args.rows.now s c.requires.search c.args.place c.requires.path c.requires.place c.requires.passed in
    omega arith

pub returns : goal.returns
returns c =
    let s = state_of c.args.self.now in
    let made = finishing c.args.rows.now s c.requires.search c.args.place c.requires.path c.requires.place c.requires.passed in
    let count : c.len-at.result ≡ length s.order = c.len-at.ensures ∙ c.args.self.now.order.ok.0 in
    let path : c.pop.new.self.items ≡ take (length s.path - 1) s.path = c.pop.ensures.rest ∙ ap (λ n. take (n - 1) s.path) c.args.self.now.path.ok.0 in
    let order : c.push.new.self.items ≡ s.order ++ c.args.place ∷ [] = c.in_ok-push.ensures.items in
    rw (path, order, count) made
