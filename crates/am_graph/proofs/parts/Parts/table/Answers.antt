use Rattle.std.proofs.Common.{ℕ, ◌≡◌, ◌∙◌, ◌<◌, ◌||◌, ◌++◌, length, take, drop, cond, ap, sym, subst, true, false, inl, inr, refl, arith}
use Rattle.std.proofs.lemmas.Bool.{cases_Bool, both_ways}
use Rattle.std.proofs.lemmas.List.{length-replicate}
use Rattle.std.specs.BTreeMap.{is_at}
use Rattle.std.specs.List.{list_any}
use Rattle.std.proofs.lemmas.List.Folds.{Any-from_list_any}
use Rattle.std.specs.Ordering.{is_eq, nat_cmp}
use Rattle.am_graph.specs.Graphs.{IsSound}
use Rattle.am_graph.specs.Reaches.{reach_at, unreached}
use Rattle.am_graph.specs.Whole.{authors_of}
use Rattle.am_graph.specs.Walks.{waits, is_place_of, Walk}
use Rattle.am_graph.proofs.Growing.{one_hash}
use Rattle.am_graph.proofs.Pending.{blank_at, written_back, left_fewer, left_split, left_below}
use Rattle.am_graph.proofs.Visiting.{place_within}
use Rattle.am_graph.proofs.Walking.{walk_starts, walk_ends}
use Rattle.am_graph.proofs.parts.Parts.table.Goals as goal

pub loop-init : goal.loop-init
loop-init c =
    let s = c.args.self.now in
    let waits_are : (k : ℕ) → waits c.wait.new.pending k ≡ is_place_of s.held.entries c.args.heads.now k = λ k. c.in_ok-wait.ensures.ok k ∙ ap (λ ks. list_any (is_at (nat_cmp k)) ks || is_place_of s.held.entries c.args.heads.now k) c.new-pending.ensures.empty in
    record {
      len = ap length c.in_ok-table.ensures ∙ length-replicate c.len.result unreached ∙ c.len.ensures;
      held = c.in_ok-wait.ensures.held;
      walk = λ C is. walk_starts (authors_of s) C (one_hash C (subst IsSound is c.requires.sound)) c.args.heads.now (waits c.wait.new.pending) c.in_ok-table.table.items
          (λ k. waits_are k ∙ ap (λ g. is_place_of g c.args.heads.now k) is)
          (λ a. ap (λ T. reach_at T a) c.in_ok-table.ensures ∙ blank_at c.len.result a);
      bound = λ q w. let l = place_within s.held.entries c.args.heads.now q (sym (waits_are q) ∙ w) in omega arith;
    }

pub returns-in_default-clause-table : goal.returns-in_default-clause-table
returns-in_default-clause-table c C is = walk_ends (authors_of c.args.self.now) C c.args.heads.now (waits c.loop.pending) c.loop.table.items
    (λ q. elim (cases_Bool (waits c.loop.pending q)) [
      | inl w ↦ let a = Any-from_list_any (is_at (nat_cmp q)) c.loop.pending.keys w in let some : 0 < length c.loop.pending.keys = (let l = a.2 in omega arith) in absurd (both_ways false refl (c.in_default.ensures.variant.1 some))
      | inr w ↦ w
    ]) (c.loop.invariant.walk C is)

pub visit-requires-clause-place : goal.visit-requires-clause-place
visit-requires-clause-place c = let b = c.loop.invariant.bound c.in-Some.place c.in-Some.ensures.member in omega arith

pub loop-preserved : goal.loop-preserved
loop-preserved c =
    let s = c.args.self.now in
    let back : take c.loop.table.len (c.visit.new.table ++ drop (length c.visit.new.table) c.loop.table.items) ≡ c.visit.new.table =
    written_back c.visit.new.table c.loop.table.items c.loop.table.len (c.visit.auto.table ∙ ap length c.as_mut_slice.ensures.value) (sym c.as_mut_slice.ensures.len ∙ ap length c.as_mut_slice.ensures.value) in
    let left : (q : ℕ) → waits c.pop_last.new.self q ≡ cond (is_eq (nat_cmp c.in-Some.place q)) false (waits c.loop.pending q) = c.in-Some.ensures.updates.0 in
    let old : waits c.loop.pending c.in-Some.place ≡ true = c.in-Some.ensures.member in
    record {
      len = ap length back ∙ c.visit.auto.table ∙ ap length c.as_mut_slice.ensures.value ∙ c.loop.invariant.len;
      held = c.loop.invariant.held;
      walk = λ C is. subst (Walk (authors_of s) C c.args.heads.now (waits c.visit.new.pending)) (sym back)
          (c.in_ok-visit.ensures.walk C is c.args.heads.now (waits c.loop.pending) (subst (Walk (authors_of s) C c.args.heads.now (waits c.loop.pending)) (sym c.as_mut_slice.ensures.value) (c.loop.invariant.walk C is)) old
          (left_fewer (waits c.loop.pending) (waits c.pop_last.new.self) c.in-Some.place left) (left_split (waits c.loop.pending) (waits c.pop_last.new.self) c.in-Some.place left));
      bound = λ q w.
          let b = c.loop.invariant.bound c.in-Some.place old in
          elim (c.in_ok-visit.ensures.before q w) [
            | inl o ↦ let z = left_below (waits c.loop.pending) (waits c.pop_last.new.self) c.in-Some.place left (λ q v. c.in-Some.ensures.greatest q v) q o in omega arith
            | inr z ↦ omega arith
          ];
    }

pub returns-clause-table : goal.returns-clause-table
returns-clause-table c C is = walk_ends (authors_of c.args.self.now) C c.args.heads.now (waits c.loop.pending) c.loop.table.items
    (λ q. elim (cases_Bool (waits c.loop.pending q)) [
      | inl w ↦ let b = c.loop.invariant.bound q w in let f = c.loop-test.false in let e = c.len-end.ensures.len in absurd (omega arith)
      | inr w ↦ w
    ]) (c.loop.invariant.walk C is)
