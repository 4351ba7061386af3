-- Declarations against the grammar.
use Rattle.std.proofs.Common.{◌≡◌, ℕ, Bool, true, false, List, [], ◌∷◌, ◌++◌, Some, None, Ok, refl, ap, ◌∙◌}
use Rattle.std.specs.Prelude.{codes}
use Rattle.frp_lex.specs.declared.token.Token.{Token}
use Rattle.frp_file.specs.declared.file.Item.{Item}
use Rattle.frp_file.specs.declared.file.Give.{Give}
use Rattle.frp_file.specs.declared.file.Template.{Template}
use Rattle.frp_file.specs.declared.file.Function.{Function}
use Rattle.frp_file.specs.declared.file.Decl.{Decl}
use Rattle.frp_file.specs.declared.file.Decl.TheVariants as d
use Rattle.frp_form.specs.declared.item_heads.ItemHead.TheVariants as i
use Rattle.frp_form.specs.declared.item_heads.DeclHead.{DeclHead}
use Rattle.frp_form.specs.declared.item_heads.DeclHead.TheVariants as h
use Rattle.frp_form.specs.Tokens.{left, right, word, spot, opened, head, after_right, begins}
use Rattle.frp_form.specs.Lists.{many}
use Rattle.frp_form.specs.Exprs.{whole_expr}
use Rattle.frp_form.specs.Shapes.{param}
use Rattle.frp_form.specs.Items.{item_parts, body_item}
use Rattle.frp_form.specs.Decls.{decl_head, before_give, params, give, template_at, function_at, decl_parts, decl}
use Rattle.frp_form.specs.Grammar.{left_at, right_at, name_at, name_of, AreAll, IsParam, IsCommonItem, let_item, tie_item, IsItem, common, sink_item, cellsink_item, IsBodyItem, AreParams, params_are, IsGive, give_is, IsTemplate, template_is, IsFunction, function_is, IsDecl, template_decl, function_decl, item_decl}
use Rattle.frp_form.proofs.Steps.{bind_ok, Begins, Sound, Complete, Splits, made, ends_with, both, and_one, one_and, inside, moved, flat, flat₃, flat₄, left_sound, right_sound, opened_sound, spot_sound, spot_read, head_sound}
use Rattle.frp_form.proofs.ItemLists.{many_sound, many_read}
use Rattle.frp_form.proofs.HeadWords.{word_of_decl, decl_named}
use Rattle.frp_form.proofs.ExprGrammar.{expr_sound, expr_read, right_ended}
use Rattle.frp_form.proofs.ShapeGrammar.{param_sound, param_read, param_starts}
use Rattle.frp_form.proofs.ItemGrammar.{let_sound, tie_sound, sink_sound, cellsink_sound, let_read, tie_read, sink_read, cellsink_read, body_item_sound, body_item_read, body_item_starts}

no_get : (w : List ℕ) → decl_head w ≡ Some (h.Item i.Get) → ⊥
no_get w e = let n : decl_head (codes "get") ≡ Some (h.Item i.Get) = rw (decl_named w (h.Item i.Get) e) at e in absurd cc

-- where `give` begins, what is behind the items is all
gives_rest : (ts after : List Token) (b : Bool) → begins (codes "give") ts ≡ b → before_give ts ≡ Some after → ts ≡ after
gives_rest ts after true e h = let k : before_give ts ≡ Some ts = rw e refl in cc
gives_rest ts after false e h = let k : before_give ts ≡ None = rw e refl in absurd cc

module _ (end : ℕ) where
  -- ---- what is read is a declaration

  params_sound : Sound (params end) AreParams
  unfolding params
  params_sound ts x e =
      let l = bind_ok (left end ts) _ _ e in
      let m = many_sound end after_right (param end) IsParam (param_sound end) l.0.1 x l.2 in
      let c = right_ended m.tail x.1 m.ended_here in
      made (and_one (one_and (left_sound end ts l.0 l.1) m.parts) c.1) (params_are l.0.0 c.0 x.0 m.front m.all)

  give_sound : Sound (give end) IsGive
  unfolding give
  give_sound ts x e =
      let l = bind_ok (opened end (codes "give") ts) _ _ e in
      let p = bind_ok (whole_expr end l.0.1) _ _ l.2 in
      let r = bind_ok (right end p.0.1) _ _ p.2 in
      let b = opened_sound end (codes "give") ts l.0 l.1 in
      let v = expr_sound end l.0.1 p.0 p.1 in
      let c = right_sound end p.0.1 r.0 r.1 in
      ends_with IsGive _ _ x r.2 (made (and_one (one_and b.1 (one_and refl v.parts)) c.1) (give_is l.0.0 b.0 c.0 p.0.0 v.front v.is))

  template_sound : (a b : ℕ) (ts : List Token) (x : Template × List Token) → template_at end a ts ≡ Ok x → Begins IsTemplate x.0 (left_at a ∷ name_at b (codes "template") ∷ ts) x.1
  unfolding template_at
  template_sound a b ts x e =
      let n = bind_ok (spot end ts) _ _ e in
      let p = bind_ok (param end n.0.1) _ _ n.2 in
      let k = bind_ok (params end p.0.1) _ _ p.2 in
      let m = bind_ok (many end before_give (body_item end) k.0.1) _ _ k.2 in
      let g = bind_ok (give end m.0.1) _ _ m.2 in
      let r = bind_ok (right end g.0.1) _ _ g.2 in
      let u = spot_sound end ts n.0 n.1 in
      let v = param_sound end n.0.1 p.0 p.1 in
      let w = params_sound p.0.1 k.0 k.1 in
      let l = many_sound end before_give (body_item end) IsBodyItem (body_item_sound end) k.0.1 m.0 m.1 in
      let z = give_sound m.0.1 g.0 g.1 in
      let c = right_sound end g.0.1 r.0 r.1 in
      let behind : Splits k.0.1 l.front m.0.1 = moved l.parts (gives_rest l.tail m.0.1 (begins (codes "give") l.tail) refl l.ended_here) in
      ends_with IsTemplate _ _ x r.2 (made (and_one (both (both (both (inside (one_and u.0 v.parts)) w.parts) behind) z.parts) c.1) (template_is a b c.0 n.0.0 p.0.0 k.0.0 m.0.0 g.0.0 v.front w.front l.front z.front u.1 v.is w.is l.all z.is))

  function_sound : (a b : ℕ) (ts : List Token) (x : Function × List Token) → function_at end a ts ≡ Ok x → Begins IsFunction x.0 (left_at a ∷ name_at b (codes "fun") ∷ ts) x.1
  unfolding function_at
  function_sound a b ts x e =
      let n = bind_ok (spot end ts) _ _ e in
      let k = bind_ok (params end n.0.1) _ _ n.2 in
      let p = bind_ok (param end k.0.1) _ _ k.2 in
      let q = bind_ok (whole_expr end p.0.1) _ _ p.2 in
      let r = bind_ok (right end q.0.1) _ _ q.2 in
      let u = spot_sound end ts n.0 n.1 in
      let w = params_sound n.0.1 k.0 k.1 in
      let v = param_sound end k.0.1 p.0 p.1 in
      let z = expr_sound end p.0.1 q.0 q.1 in
      let c = right_sound end q.0.1 r.0 r.1 in
      ends_with IsFunction _ _ x r.2 (made (and_one (both (both (inside (one_and u.0 w.parts)) v.parts) z.parts) c.1) (function_is a b c.0 n.0.0 k.0.0 p.0.0 q.0.0 w.front v.front z.front u.1 w.is v.is z.is))

  of_template : (x : Template) (ts rest : List Token) → Begins IsTemplate x ts rest → Begins IsDecl (d.Template x) ts rest
  of_template x ts rest b = made b.parts (template_decl x b.front b.is)

  of_function : (x : Function) (ts rest : List Token) → Begins IsFunction x ts rest → Begins IsDecl (d.Function x) ts rest
  of_function x ts rest b = made b.parts (function_decl x b.front b.is)

  of_item : (x : Item) (ts rest : List Token) → Begins IsItem x ts rest → Begins IsDecl (d.Item x) ts rest
  of_item x ts rest b = made b.parts (item_decl x b.front b.is)

  of_common : (x : Item) (ts rest : List Token) → Begins IsCommonItem x ts rest → Begins IsItem x ts rest
  of_common x ts rest b = made b.parts (common x b.front b.is)

  parts_sound : (a b : ℕ) (w : List ℕ) (op : DeclHead) (ts : List Token) (x : Decl × List Token) → decl_head w ≡ Some op → decl_parts end a op ts ≡ Ok x → Begins IsDecl x.0 (left_at a ∷ name_at b (word_of_decl op) ∷ ts) x.1
  parts_sound a b w h.Template ts x means e = let p = bind_ok (template_at end a ts) _ _ e in ends_with IsDecl _ _ x p.2 (of_template p.0.0 _ p.0.1 (template_sound a b ts p.0 p.1))
  parts_sound a b w h.Function ts x means e = let p = bind_ok (function_at end a ts) _ _ e in ends_with IsDecl _ _ x p.2 (of_function p.0.0 _ p.0.1 (function_sound a b ts p.0 p.1))
  parts_sound a b w (h.Item i.Sink) ts x means e = let p = bind_ok (item_parts end a i.Sink ts) _ _ e in ends_with IsDecl _ _ x p.2 (of_item p.0.0 _ p.0.1 (sink_sound end a b ts p.0 p.1))
  parts_sound a b w (h.Item i.Cellsink) ts x means e = let p = bind_ok (item_parts end a i.Cellsink ts) _ _ e in ends_with IsDecl _ _ x p.2 (of_item p.0.0 _ p.0.1 (cellsink_sound end a b ts p.0 p.1))
  parts_sound a b w (h.Item i.Let) ts x means e = let p = bind_ok (item_parts end a i.Let ts) _ _ e in ends_with IsDecl _ _ x p.2 (of_item p.0.0 _ p.0.1 (of_common p.0.0 _ p.0.1 (let_sound end a b ts p.0 p.1)))
  parts_sound a b w (h.Item i.Tie) ts x means e = let p = bind_ok (item_parts end a i.Tie ts) _ _ e in ends_with IsDecl _ _ x p.2 (of_item p.0.0 _ p.0.1 (of_common p.0.0 _ p.0.1 (tie_sound end a b ts p.0 p.1)))
  parts_sound a b w (h.Item i.Get) ts x means e = absurd (no_get w means)

  pub decl_sound : Sound (decl end) IsDecl
  unfolding decl
  decl_sound ts x e =
      let l = bind_ok (left end ts) _ _ e in
      let p = bind_ok (head end decl_head l.0.1) _ _ l.2 in
      let w = head_sound end decl_head l.0.1 p.0 p.1 in
      let is : ts ≡ left_at l.0.0 ∷ name_at w.place (word_of_decl p.0.0) ∷ p.0.1 =
      left_sound end ts l.0 l.1 ∙ ap (λ us. left_at l.0.0 ∷ us) (w.parts ∙ ap (λ n. name_at w.place n ∷ p.0.1) (decl_named w.name p.0.0 w.means)) in
      rw is (parts_sound l.0.0 w.place w.name p.0.0 p.0.1 x w.means p.2)

  -- ---- a declaration is read

  params_read : Complete (params end) AreParams
  unfolding params left
  params_read x ts rest (params_are a c ps us all) =
      ap (many end after_right (param end)) (flat us (right_at c ∷ []) rest)
      ∙ many_read end after_right (param end) IsParam (param_read end) (param_starts end) ps us (right_at c ∷ rest) rest all refl

  give_read : Complete (give end) IsGive
  unfolding give opened left word right
  give_read x ts rest (give_is a b c v vs is) =
      ap (λ l. give end (left_at a ∷ name_at b (codes "give") ∷ l)) (flat vs (right_at c ∷ []) rest) ∙ rw (expr_read end v vs (right_at c ∷ rest) is) refl

  -- the items of a template are read, up to what it gives
  body_read : (xs : List Item) (us : List Token) (g : Give) (gs rest : List Token) → AreAll IsBodyItem xs us → IsGive g gs → many end before_give (body_item end) (us ++ (gs ++ rest)) ≡ Ok (xs, gs ++ rest)
  body_read xs us g gs rest all (give_is a b c v vs is) =
      let gives : List Token = left_at a ∷ name_at b (codes "give") ∷ vs ++ right_at c ∷ [] in
      many_read end before_give (body_item end) IsBodyItem (body_item_read end) body_item_starts xs us (gives ++ rest) (gives ++ rest) all refl

  template_read : (x : Template) (ts rest : List Token) → IsTemplate x ts → decl end (ts ++ rest) ≡ Ok (d.Template x, rest)
  unfolding decl left head template_at right
  template_read x ts rest (template_is a b c n p kept items gives ps ks us gs user is js all ms) =
      ap (λ l. decl end (left_at a ∷ name_at b (codes "template") ∷ name_of n ∷ l)) (flat₄ ps ks us gs (right_at c ∷ []) rest)
      ∙ rw (spot_read end n (ps ++ (ks ++ (us ++ (gs ++ right_at c ∷ rest)))) user, param_read end p ps (ks ++ (us ++ (gs ++ right_at c ∷ rest))) is, params_read kept ks (us ++ (gs ++ right_at c ∷ rest)) js, body_read items us gives gs (right_at c ∷ rest) all ms, give_read gives gs (right_at c ∷ rest) ms) refl

  function_read : (x : Function) (ts rest : List Token) → IsFunction x ts → decl end (ts ++ rest) ≡ Ok (d.Function x, rest)
  unfolding decl left head function_at right
  function_read x ts rest (function_is a b c n kept arg e ks ps es user js is ms) =
      ap (λ l. decl end (left_at a ∷ name_at b (codes "fun") ∷ name_of n ∷ l)) (flat₃ ks ps es (right_at c ∷ []) rest)
      ∙ rw (spot_read end n (ks ++ (ps ++ (es ++ right_at c ∷ rest))) user, params_read kept ks (ps ++ (es ++ right_at c ∷ rest)) js, param_read end arg ps (es ++ right_at c ∷ rest) is, expr_read end e es (right_at c ∷ rest) ms) refl

  item_read : (x : Item) (ts rest : List Token) → IsItem x ts → decl end (ts ++ rest) ≡ Ok (d.Item x, rest)
  unfolding decl left head
  item_read x ts rest (common y us (let_item a b c n v vs user is)) = rw (let_read end a c n v vs rest user is) refl
  item_read x ts rest (common y us (tie_item a b c m n user users)) = rw (tie_read end a c m n rest user users) refl
  item_read x ts rest (sink_item a b c n ty us user is) = rw (sink_read end a c n ty us rest user is) refl
  item_read x ts rest (cellsink_item a b c m n ty v us vs user users is js) = rw (cellsink_read end a c m n ty v us vs rest user users is js) refl

  pub decl_read : Complete (decl end) IsDecl
  decl_read x ts rest (template_decl y us is) = template_read y us rest is
  decl_read x ts rest (function_decl y us is) = function_read y us rest is
  decl_read x ts rest (item_decl y us is) = item_read y us rest is

  pub decl_starts : (x : Decl) (ts rest : List Token) → IsDecl x ts → after_right (ts ++ rest) ≡ None
  decl_starts x ts rest (template_decl y us (template_is a b c n p kept items gives ps ks vs gs user is js all ms)) = refl
  decl_starts x ts rest (function_decl y us (function_is a b c n kept arg e ks ps es user js is ms)) = refl
  decl_starts x ts rest (item_decl y us (common z vs (let_item a b c n v ws user is))) = refl
  decl_starts x ts rest (item_decl y us (common z vs (tie_item a b c m n user users))) = refl
  decl_starts x ts rest (item_decl y us (sink_item a b c n ty vs user is)) = refl
  decl_starts x ts rest (item_decl y us (cellsink_item a b c m n ty v vs ws user users is js)) = refl
