-- Files against the grammar.
use Rattle.std.proofs.Common.{◌≡◌, ℕ, ◌≤◌, Bool, true, false, List, [], ◌∷◌, ◌++◌, length, Some, None, Ok, refl, sym, ap, ◌∙◌, subst, append_assoc, append-nil}
use Rattle.std.specs.Prelude.{codes}
use Rattle.frp_lex.specs.declared.token.Token.{Token}
use Rattle.frp_file.specs.declared.file.Listen.{Listen}
use Rattle.frp_file.specs.declared.file.RawSend.{RawSend}
use Rattle.frp_file.specs.declared.file.Sender.{Sender}
use Rattle.frp_file.specs.declared.file.File.{File}
use Rattle.frp_form.specs.declared.fault.FormKind.TheVariants as kind
use Rattle.frp_form.specs.declared.over.Over.TheVariants as o
use Rattle.frp_form.specs.declared.reading.Reading.{Reading}
use Rattle.frp_form.specs.Tokens.{left, right, word, spot, opened, after_right, begins}
use Rattle.frp_form.specs.Lists.{items, many, over_at}
use Rattle.frp_form.specs.Exprs.{whole_expr}
use Rattle.frp_form.specs.Decls.{decl}
use Rattle.frp_form.specs.File.{after_listens, at_end, graph, listen, send, sends, sender, senders, file_of}
use Rattle.frp_form.specs.Grammar.{left_at, right_at, name_at, name_of, AreAll, none, more, IsDecl, IsGraph, graph_is, IsListen, listen_is, IsSend, send_is, IsSender, sender_is, most_senders, IsFile, file_is}
use Rattle.frp_form.specs.Laws.{ReadIsGrammar, GrammarIsRead}
use Rattle.frp_form.proofs.Steps.{ok_of, bind_ok, Sound, Complete, made, ends_with, both, and_one, one_and, one, moved, flat, right_sound, opened_sound, spot_sound, spot_read}
use Rattle.frp_form.proofs.ItemLists.{Listed, items_sound, items_read, many_sound, many_read}
use Rattle.frp_form.proofs.ExprGrammar.{expr_sound, expr_read, right_ended}
use Rattle.frp_form.proofs.DeclGrammar.{decl_sound, decl_read, decl_starts}

-- behind the listens is all that is left
listens_rest : (ts after : List Token) (b : Bool) → begins (codes "listen") ts ≡ b → after_listens ts ≡ Some after → ts ≡ after
listens_rest ts after true e h = let k : after_listens ts ≡ None = rw e refl in absurd cc
listens_rest ts after false e h = let k : after_listens ts ≡ Some ts = rw e refl in cc

-- behind the senders is nothing
senders_rest : (ts after : List Token) → at_end ts ≡ Some after → ts ≡ []
senders_rest [] after h = refl
senders_rest (t ∷ ts) after h = absurd cc

module _ (end : ℕ) where
  -- ---- what is read is of the grammar

  graph_sound : Sound (graph end) IsGraph
  unfolding graph
  graph_sound ts x e =
      let l = bind_ok (opened end (codes "graph") ts) _ _ e in
      let m = bind_ok (many end after_right (decl end) l.0.1) _ _ l.2 in
      let b = opened_sound end (codes "graph") ts l.0 l.1 in
      let v = many_sound end after_right (decl end) IsDecl (decl_sound end) l.0.1 m.0 m.1 in
      let c = right_ended v.tail m.0.1 v.ended_here in
      ends_with IsGraph _ _ x m.2 (made (and_one (one_and b.1 (one_and refl v.parts)) c.1) (graph_is l.0.0 b.0 c.0 m.0.0 v.front v.all))

  listen_sound : Sound (listen end) IsListen
  unfolding listen
  listen_sound ts x e =
      let l = bind_ok (opened end (codes "listen") ts) _ _ e in
      let n = bind_ok (spot end l.0.1) _ _ l.2 in
      let r = bind_ok (right end n.0.1) _ _ n.2 in
      let b = opened_sound end (codes "listen") ts l.0 l.1 in
      let u = spot_sound end l.0.1 n.0 n.1 in
      let c = right_sound end n.0.1 r.0 r.1 in
      ends_with IsListen _ _ x r.2 (made (one_and b.1 (one_and refl (one_and u.0 (one c.1)))) (listen_is l.0.0 b.0 c.0 n.0.0 u.1))

  send_sound : Sound (send end) IsSend
  unfolding send
  send_sound ts x e =
      let l = bind_ok (opened end (codes "send") ts) _ _ e in
      let n = bind_ok (spot end l.0.1) _ _ l.2 in
      let p = bind_ok (whole_expr end n.0.1) _ _ n.2 in
      let r = bind_ok (right end p.0.1) _ _ p.2 in
      let b = opened_sound end (codes "send") ts l.0 l.1 in
      let u = spot_sound end l.0.1 n.0 n.1 in
      let v = expr_sound end n.0.1 p.0 p.1 in
      let c = right_sound end p.0.1 r.0 r.1 in
      ends_with IsSend _ _ x r.2 (made (and_one (one_and b.1 (one_and refl (one_and u.0 v.parts))) c.1) (send_is l.0.0 b.0 c.0 n.0.0 p.0.0 v.front u.1 v.is))

  sender_sound : Sound (sender end) IsSender
  unfolding sender sends
  sender_sound ts x e =
      let l = bind_ok (opened end (codes "sender") ts) _ _ e in
      let m = bind_ok (sends end l.0.1) _ _ l.2 in
      let b = opened_sound end (codes "sender") ts l.0 l.1 in
      let v = items_sound after_right (over_at end o.Send) (send end) IsSend send_sound 4096 l.0.1 m.0 m.1 in
      let c = right_ended v.tail m.0.1 v.ended_here in
      ends_with IsSender _ _ x m.2 (made (and_one (one_and b.1 (one_and refl v.parts)) c.1) (sender_is l.0.0 b.0 c.0 m.0.0 v.front v.few v.all))

  senders_by : (how : Reading) (one : Bool) → how.one_sender ≡ one → (ts : List Token) (x : List Sender × List Token) → senders end how ts ≡ Ok x → Listed at_end IsSender (most_senders how) x.0 ts x.1
  unfolding senders
  senders_by how true e ts x h = rw e (items_sound at_end (over_at end (o.Sender kind.Senders)) (sender end) IsSender sender_sound 1 ts x (rw e at h))
  senders_by how false e ts x h = rw e (items_sound at_end (over_at end (o.Sender kind.Many)) (sender end) IsSender sender_sound 16 ts x (rw e at h))

  file_sound : (how : Reading) (ts : List Token) (f : File) → file_of end how ts ≡ Ok f → IsFile how f ts
  unfolding file_of
  file_sound how ts f e =
      let g = bind_ok (graph end ts) _ _ e in
      let l = bind_ok (many end after_listens (listen end) g.0.1) _ _ g.2 in
      let s = bind_ok (senders end how l.0.1) _ _ l.2 in
      let u = graph_sound ts g.0 g.1 in
      let v = many_sound end after_listens (listen end) IsListen listen_sound g.0.1 l.0 l.1 in
      let w = senders_by how how.one_sender refl l.0.1 s.0 s.1 in
      let graph_and_listens = both u.parts (moved v.parts (listens_rest v.tail l.0.1 (begins (codes "listen") v.tail) refl v.ended_here)) in
      let whole = both graph_and_listens (moved w.parts (senders_rest w.tail s.0.1 w.ended_here)) in
      let parts : ts ≡ u.front ++ v.front ++ w.front = whole.is ∙ append-nil (u.front ++ v.front ++ w.front) in
      let file : File = record { graph = g.0.0; listens = l.0.0; senders = s.0.0 } in
      rw parts (subst (λ z. IsFile how z (u.front ++ v.front ++ w.front)) (ok_of file f s.2) (file_is g.0.0 l.0.0 s.0.0 u.front v.front w.front u.is v.all w.all w.few))

  -- ---- what is of the grammar is read

  graph_read : Complete (graph end) IsGraph
  unfolding graph opened left word
  graph_read x ts rest (graph_is a b c decls us all) =
      let all_read : many end after_right (decl end) ((us ++ right_at c ∷ []) ++ rest) ≡ Ok (decls, rest) =
      ap (many end after_right (decl end)) (flat us (right_at c ∷ []) rest)
      ∙ many_read end after_right (decl end) IsDecl (decl_read end) (decl_starts end) decls us (right_at c ∷ rest) rest all refl in
      rw all_read refl

  listen_read : Complete (listen end) IsListen
  unfolding listen opened left word right
  listen_read x ts rest (listen_is a b c n user) = rw (spot_read end n (right_at c ∷ rest) user) refl

  listen_starts : (x : Listen) (ts rest : List Token) → IsListen x ts → after_listens (ts ++ rest) ≡ None
  listen_starts x ts rest (listen_is a b c n user) = refl

  send_read : Complete (send end) IsSend
  unfolding send opened left word right
  send_read x ts rest (send_is a b c n v vs user is) =
      ap (λ l. send end (left_at a ∷ name_at b (codes "send") ∷ name_of n ∷ l)) (flat vs (right_at c ∷ []) rest) ∙ rw (spot_read end n (vs ++ right_at c ∷ rest) user, expr_read end v vs (right_at c ∷ rest) is) refl

  send_starts : (x : RawSend) (ts rest : List Token) → IsSend x ts → after_right (ts ++ rest) ≡ None
  send_starts x ts rest (send_is a b c n v vs user is) = refl

  sender_read : Complete (sender end) IsSender
  unfolding sender sends opened left word
  sender_read x ts rest (sender_is a b c all us few are) =
      let all_read : items after_right (over_at end o.Send) (send end) 4096 ((us ++ right_at c ∷ []) ++ rest) ≡ Ok (all, rest) =
      ap (items after_right (over_at end o.Send) (send end) 4096) (flat us (right_at c ∷ []) rest)
      ∙ items_read after_right (over_at end o.Send) (send end) IsSend send_read send_starts 4096 all us (right_at c ∷ rest) rest are few refl in
      rw all_read refl

  sender_starts : (x : Sender) (ts rest : List Token) → IsSender x ts → at_end (ts ++ rest) ≡ None
  sender_starts x ts rest (sender_is a b c all us few are) = refl

  senders_read : (how : Reading) (one : Bool) → how.one_sender ≡ one → (xs : List Sender) (ts : List Token) → AreAll IsSender xs ts → length xs ≤ most_senders how → senders end how ts ≡ Ok (xs, [])
  unfolding senders
  senders_read how true e xs ts are few = rw e (ap (items at_end (over_at end (o.Sender kind.Senders)) (sender end) 1) (sym (append-nil ts)) ∙ items_read at_end (over_at end (o.Sender kind.Senders)) (sender end) IsSender sender_read sender_starts 1 xs ts [] [] are (rw e at few) refl)
  senders_read how false e xs ts are few = rw e (ap (items at_end (over_at end (o.Sender kind.Many)) (sender end) 16) (sym (append-nil ts)) ∙ items_read at_end (over_at end (o.Sender kind.Many)) (sender end) IsSender sender_read sender_starts 16 xs ts [] [] are (rw e at few) refl)

  -- no listen begins where the senders do
  no_listen : (xs : List Sender) (ts : List Token) → AreAll IsSender xs ts → after_listens ts ≡ Some ts
  no_listen xs ts none = refl
  no_listen xs ts (more y ys us vs (sender_is a b c all ws few are) others) = refl

  file_read : (how : Reading) (ts : List Token) (f : File) → IsFile how f ts → file_of end how ts ≡ Ok f
  unfolding file_of
  file_read how ts f (file_is g listens all gs ls ss first are others few) =
      ap (file_of end how) (append_assoc gs ls ss)
      ∙ rw (graph_read g gs (ls ++ ss) first, many_read end after_listens (listen end) IsListen listen_read listen_starts listens ls ss ss are (no_listen all ss others), senders_read how how.one_sender refl all ss others few) refl

pub read_is_grammar_lem : ReadIsGrammar
read_is_grammar_lem end how ts f h = file_sound end how ts f h

pub grammar_is_read_lem : GrammarIsRead
grammar_is_read_lem end how ts f h = file_read end how ts f h
