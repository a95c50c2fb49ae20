use Rattle.std.proofs.Common.{◌≡◌, ℕ, ◌+◌, ◌≤◌, List, [], ◌∷◌, ◌++◌, length, length-append, take, Option, refl, sym, ap, subst, ◌∙◌, arith}
use Rattle.std.specs.Prelude.{replicate}
use Rattle.std.proofs.lemmas.List.{length-replicate, length-drop}
use Rattle.am_fields.specs.Reading.{AllRead, AllReadAt}
use Rattle.am_fields.proofs.Judging.{AllRead-alike, AllRead-parts}
use Rattle.am_fields.proofs.placed.are_read.Goals as goal

AllRead-none : {A B C : Type 0} (read : A → B → Option C) (xs : List A) (ys : List B) → length xs ≤ 0 → length xs ≡ length ys → AllRead read xs ys
AllRead-none read [] [] few same = tt
AllRead-none read [] (y ∷ ys) few same = absurd (omega arith)
AllRead-none read (x ∷ xs) ys few same = absurd (omega arith)

length_next : {A : Type 0} (x : A) (k : ℕ) (xs xs' : List A) → xs ≡ replicate k x ++ xs' → length xs ≡ k + length xs'
length_next x k xs xs' e = omega (arith, ap length e, length-append (replicate k x) xs', length-replicate k x)

pub are_read_alike-requires : goal.are_read_alike-requires
are_read_alike-requires g c =
    let next = c.next_alike_within-place in
    λ k. ((refl, tt), omega (arith, c.loop-known.invariant.1, length_next next.result.0 next.result.1 c.loop-known.places next.new.self next.ensures.next))

pub returns-then-not-are_read_alike : goal.returns-then-not-are_read_alike
returns-then-not-are_read_alike g c =
    let v = c.loop-known.invariant in
    let next = c.next_alike_within-place in
    let read = g.B.RowCells.rows.read in
    let cells = g.B.RowCells.cells c.loop-known.rest in (
      λ e. absurd (cc),
      λ all. c.if-not-are_read_alike.ensures.read.1 (subst (λ a. AllReadAt (read a) next.result.0 (take next.result.1 cells)) (sym v.0) (AllRead-parts (read c.args.actors.now) next.result.0 next.result.1 next.new.self cells (subst (λ l. AllRead (read c.args.actors.now) l cells) next.ensures.next (v.3 all))).0),
    )

pub loop-known-preserved : goal.loop-known-preserved
loop-known-preserved g c =
    let v = c.loop-known.invariant in
    let actors = c.args.actors.now in
    let next = c.next_alike_within-place in
    let read = g.B.RowCells.rows.read in
    let cells = g.B.RowCells.cells c.loop-known.rest in
    let size = length_next next.result.0 next.result.1 c.loop-known.places next.new.self next.ensures.next in
    let behind = c.if-not-are_read_alike.ensures.behind refl in
    let at = subst (λ a. AllReadAt (read a) next.result.0 (take next.result.1 cells)) v.0 (c.if-not-are_read_alike.ensures.read.0 refl) in (
      c.are_read_alike.ensures.same ∙ v.0,
      omega (arith, v.1, size, ap length behind, length-drop next.result.1 cells),
      λ all. v.2 (subst (λ l. AllRead (read actors) l cells) (sym next.ensures.next) (AllRead-alike (read actors) next.result.0 next.result.1 next.new.self cells (omega (arith, v.1, size)) at (subst (AllRead (read actors) next.new.self) behind all))),
      λ all. subst (AllRead (read actors) next.new.self) (sym behind) (AllRead-parts (read actors) next.result.0 next.result.1 next.new.self cells (subst (λ l. AllRead (read actors) l cells) next.ensures.next (v.3 all))).1,
    )

pub returns : goal.returns
returns g c =
    let v = c.loop-known.invariant in (
      λ e. v.2 (AllRead-none (g.B.RowCells.rows.read c.args.actors.now) c.loop-known.places _ (subst (λ n. n ≤ 0) c.left.ensures c.loop-known-test.false) v.1),
      λ all. refl,
    )
