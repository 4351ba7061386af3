use Rattle.std.proofs.Common.{◌≡◌, ◌<◌, [], length, get_or, refl, sym, ap, ◌∙◌, subst, arith}
use Rattle.std.proofs.lemmas.List.{get_or_read}
use Rattle.frp_order.specs.declared.visit.Visit.{Visit}
use Rattle.frp_order.specs.Rings.{row}
use Rattle.frp_order.specs.Search.{top_of, state_of, LeadsNext}
use Rattle.frp_order.proofs.Steps.{top_read, place_inside, moved, moved_top, linked_on}
use Rattle.frp_order.proofs.search.Search.step.Goals as goal

pub bounds-rows-visit : goal.bounds-rows-visit
bounds-rows-visit c =
    let s = state_of c.args.self.now in
    let x = c.index-visit.result.now in
    let is_top : x ≡ top_of s.path = top_read s.path c.len-top.result x (c.len-top.ensures ∙ c.args.self.now.path.ok.0) c.requires.path c.index-visit.ensures in
    place_inside c.args.rows.now s c.requires.search c.requires.path x is_top

pub offset_bounds-rows-visit : goal.offset_bounds-rows-visit
offset_bounds-rows-visit c =
    let s = state_of c.args.self.now in
    let x = c.index-visit.result.now in
    let is_top : x ≡ top_of s.path = top_read s.path c.len-top.result x (c.len-top.ensures ∙ c.args.self.now.path.ok.0) c.requires.path c.index-visit.ensures in
    let l : x.place < length c.args.rows.now = place_inside c.args.rows.now s c.requires.search c.requires.path x is_top in
    omega arith

pub next_link-next-requires : goal.next_link-next-requires
next_link-next-requires c =
    let s = state_of c.args.self.now in
    let x = c.index-visit.result.now in
    let is_top : x ≡ top_of s.path = top_read s.path c.len-top.result x (c.len-top.ensures ∙ c.args.self.now.path.ok.0) c.requires.path c.index-visit.ensures in
    let l : x.place < length c.args.rows.now = place_inside c.args.rows.now s c.requires.search c.requires.path x is_top in
    let r : c.as_slice-row.result.now ≡ row c.args.rows.now x.place = c.as_slice-row.ensures ∙ get_or_read c.args.rows.now x.place c.index-rows-visit.result l c.index-rows-visit.is [] in
    record {
      inside = λ i h. subst (λ n. get_or c.as_slice-row.result.now i 0 < n) (sym c.requires.search.marked) (c.requires.inside x.place (get_or c.as_slice-row.result.now i 0) (i, subst (λ q. i < length q) r h, ap (λ q. get_or q i 0) (sym r)));
    }

pub follow-requires-clause-search : goal.follow-requires-clause-search
follow-requires-clause-search c =
    let s = state_of c.args.self.now in
    let x = c.index-visit.result.now in
    let count : c.len-top.result ≡ length s.path = c.len-top.ensures ∙ c.args.self.now.path.ok.0 in
    let is_top : x ≡ top_of s.path = top_read s.path c.len-top.result x count c.requires.path c.index-visit.ensures in
    let l : x.place < length c.args.rows.now = place_inside c.args.rows.now s c.requires.search c.requires.path x is_top in
    let r : c.as_slice-row.result.now ≡ row c.args.rows.now x.place = c.as_slice-row.ensures ∙ get_or_read c.args.rows.now x.place c.index-rows-visit.result l c.index-rows-visit.is [] in
    moved c.args.rows.now s c.requires.search c.requires.path x is_top c.as_slice-row.result.now r c.next_link-next.result c.next_link-next.ensures.passed c.len-top.result count

pub follow-requires-clause-to : goal.follow-requires-clause-to
follow-requires-clause-to c =
    let s = state_of c.args.self.now in
    let x = c.index-visit.result.now in
    let count : c.len-top.result ≡ length s.path = c.len-top.ensures ∙ c.args.self.now.path.ok.0 in
    let is_top : x ≡ top_of s.path = top_read s.path c.len-top.result x count c.requires.path c.index-visit.ensures in
    let l : x.place < length c.args.rows.now = place_inside c.args.rows.now s c.requires.search c.requires.path x is_top in
    let r : c.as_slice-row.result.now ≡ row c.args.rows.now x.place = c.as_slice-row.ensures ∙ get_or_read c.args.rows.now x.place c.index-rows-visit.result l c.index-rows-visit.is [] in
    let next = c.next_link-next.result in
    c.requires.inside x.place (get_or c.as_slice-row.result.now next 0) (next, subst (λ q. next < length q) r c.if-next-row.true, ap (λ q. get_or q next 0) (sym r))

pub follow-requires-clause-leads : goal.follow-requires-clause-leads
follow-requires-clause-leads c =
    let s = state_of c.args.self.now in
    let x = c.index-visit.result.now in
    let count : c.len-top.result ≡ length s.path = c.len-top.ensures ∙ c.args.self.now.path.ok.0 in
    let is_top : x ≡ top_of s.path = top_read s.path c.len-top.result x count c.requires.path c.index-visit.ensures in
    let l : x.place < length c.args.rows.now = place_inside c.args.rows.now s c.requires.search c.requires.path x is_top in
    let q = c.as_slice-row.result.now in
    let r : q ≡ row c.args.rows.now x.place = c.as_slice-row.ensures ∙ get_or_read c.args.rows.now x.place c.index-rows-visit.result l c.index-rows-visit.is [] in
    let next = c.next_link-next.result in
    let passed = c.next_link-next.ensures.passed in
    let top = moved_top c.args.rows.now s c.requires.search c.requires.path x is_top q r next passed c.len-top.result count in
    subst (λ (v : Visit). LeadsNext c.args.rows.now v (get_or q next 0)) (sym top) (linked_on c.args.rows.now s c.requires.search c.requires.path x is_top q r next passed (get_or q next 0) c.if-next-row.true refl)

pub finish-requires-clause-search : goal.finish-requires-clause-search
finish-requires-clause-search c =
    let s = state_of c.args.self.now in
    let x = c.index-visit.result.now in
    let count : c.len-top.result ≡ length s.path = c.len-top.ensures ∙ c.args.self.now.path.ok.0 in
    let is_top : x ≡ top_of s.path = top_read s.path c.len-top.result x count c.requires.path c.index-visit.ensures in
    let l : x.place < length c.args.rows.now = place_inside c.args.rows.now s c.requires.search c.requires.path x is_top in
    let r : c.as_slice-row.result.now ≡ row c.args.rows.now x.place = c.as_slice-row.ensures ∙ get_or_read c.args.rows.now x.place c.index-rows-visit.result l c.index-rows-visit.is [] in
    moved c.args.rows.now s c.requires.search c.requires.path x is_top c.as_slice-row.result.now r c.next_link-next.result c.next_link-next.ensures.passed c.len-top.result count
