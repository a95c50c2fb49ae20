-- Deliveries behind others.
use Rattle.std.proofs.Common.{◌≡◌, List, [], ◌∷◌, ◌++◌, All, IsPermutation, refl, sym, subst}
use Rattle.std.proofs.lemmas.List.Elements.{All-append, All-cons, All-nil}
use Rattle.std.proofs.lemmas.List.Sorted.{IsPermutation-sym, IsPermutation-trans}
use Rattle.am_types.specs.Members.{Member}
use Rattle.am_types.specs.Deliver.{Sets, MayCome, StandFor, deliver, after_all, after, no_sets}
use Rattle.am_delivery.specs.Laws.{ListingIsFree, OrderIsFree}
use Rattle.am_store.specs.declared.report.Report.{Report}
use Rattle.am_store.specs.Kept.{Kept, IsKept, Takes}
use Rattle.am_store.specs.AnyOrder.{ComesInAnyOrder}

one_more : (Ls : List (List Member)) (s : Sets) (L : List Member) → after_all s (Ls ++ L ∷ []) ≡ deliver (after_all s Ls).closed (after_all s Ls).waiting L
one_more [] s L = refl
one_more (K ∷ Ls) s L = one_more Ls (deliver s.closed s.waiting K) L

module _ (free : ListingIsFree) (old new : Kept) (L : List Member) (report : Report) (kept : IsKept old) (come : All MayCome L) (takes : Takes old L report new) where
  stands : (Ls : List (List Member)) → StandFor old.closed old.waiting Ls → StandFor new.closed new.waiting (Ls ++ L ∷ [])
  stands Ls s =
      let was = after Ls in
      let here = deliver old.closed old.waiting L in
      let there = deliver was.closed was.waiting L in
      let alike = free old.closed was.closed old.waiting was.waiting L kept.stored (IsPermutation-sym was.closed old.closed s.closed) (IsPermutation-sym was.waiting old.waiting s.waiting) come in
      let e : after (Ls ++ L ∷ []) ≡ there = one_more Ls no_sets L in
      record {
        may_come = All-append (All MayCome) Ls (L ∷ []) s.may_come (All-cons (All MayCome) L [] come (All-nil (All MayCome)));
        closed = subst (λ (t : Sets). IsPermutation t.closed new.closed) (sym e)
            (IsPermutation-trans there.closed here.closed new.closed (IsPermutation-sym here.closed there.closed alike.closed) takes.closed);
        waiting = subst (λ (t : Sets). IsPermutation t.waiting new.waiting) (sym e)
            (IsPermutation-trans there.waiting here.waiting new.waiting (IsPermutation-sym here.waiting there.waiting alike.waiting) takes.waiting);
      }

  pub in_any_order : OrderIsFree → ComesInAnyOrder old L new
  in_any_order any = record {
    stands = stands;
    told = λ Ls D s are none. let told = any (Ls ++ L ∷ []) D new.closed new.waiting (stands Ls s) are none in record { closed = told.0; waiting = told.1 };
  }
