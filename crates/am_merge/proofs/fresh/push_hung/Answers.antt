use Rattle.std.proofs.Common.{◌<◌, ◌∙◌, All, ap, arith, length, map, subst, sym}
use Rattle.std.proofs.lemmas.List.{length-map}
use Rattle.am_places.specs.Numbered.{operation_of}
use Rattle.am_merge.specs.Aims.{stacked_at}
use Rattle.am_merge.specs.declared.aims.Aim.{Aim}
use Rattle.am_merge.proofs.Aimed.{more_within, namers_wait}
use Rattle.am_merge.proofs.fresh.push_hung.Goals as goal

pub push_places-requires : goal.push_places-requires
push_places-requires c = record {
  linked = c.requires.hung.linked;
  at = let long = length-map c.args.operations.now operation_of in let at = c.requires.at in let heads = c.requires.hung.heads in omega arith;
}

pub returns-clause-within : goal.returns-clause-within
returns-clause-within c =
    let n = length c.args.operations.now in
    let places : All (λ (a : Aim). a.place < n) c.args.hung.now.aims.items = subst (λ m. All (λ (a : Aim). a.place < m) c.args.hung.now.aims.items) (length-map c.args.operations.now operation_of) c.requires.hung.are.places in
    subst (All (λ k. k < n)) (sym c.in_ok-push_places.ensures) (more_within n c.args.at c.args.waiting.now.items c.args.hung.now.aims.items c.requires.within places)

pub returns-clause-behind : goal.returns-clause-behind
returns-clause-behind c = λ x there.
    let A = map operation_of c.args.operations.now in
    ap (stacked_at A) c.in_ok-push_places.ensures ∙ namers_wait A c.args.hung.now c.args.at x c.args.waiting.now.items c.requires.hung there
