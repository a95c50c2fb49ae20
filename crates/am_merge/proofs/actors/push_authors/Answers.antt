use Rattle.std.proofs.Common.{◌≡◌, ◌+◌, [], ◌∷◌, ◌++◌, List, ℕ, All, Bor, map, take, sym, ap, subst, ◌∙◌}
use Rattle.std.proofs.lemmas.List.{append_assoc, map-append, take_more}
use Rattle.std.proofs.lemmas.List.Elements.{All-append, All-from_recursion}
use Rattle.am_types.specs.declared.Change.{Change}
use Rattle.am_fields.specs.Limits.{IsShortActor}
use Rattle.am_merge.proofs.Names.{bytes_of}
use Rattle.am_merge.proofs.actors.push_authors.Goals as goal

abbrev author_of : Bor Change → List ℕ
author_of c = c.now.actor

pub loop-i-preserved : goal.loop-i-preserved
loop-i-preserved c =
    let cs : List (Bor Change) = c.args.added.now in
    let i = c.loop-i.i in
    let x : Bor Change = c.index-added-i.result in
    let more : take (i + 1) cs ≡ take i cs ++ x ∷ [] = take_more cs i x c.loop-i-test.true ∙ ap (λ y. take i cs ++ y ∷ []) (sym c.index-added-i.is) in
    let short : IsShortActor (author_of x) = subst (λ (y : Bor Change). IsShortActor (author_of y)) (sym c.index-added-i.is) (c.as_slice.ensures.allowed.some, c.as_slice.ensures.allowed.few) in
    let before : List (List ℕ) = map bytes_of c.args.names.now.items in
    record {
      names =
          ap (map bytes_of) c.in_ok-push.ensures.items
          ∙ map-append bytes_of c.loop-i.names.items (c.as_slice.result ∷ [])
          ∙ (λ t. c.loop-i.invariant.names t ++ (c.as_slice.ensures.value ∙ ap author_of (sym c.index-added-i.is)) t ∷ [])
          ∙ append_assoc before (map author_of (take i cs)) (author_of x ∷ [])
          ∙ ap (λ l. before ++ l) (sym (ap (map author_of) more ∙ map-append author_of (take i cs) (x ∷ [])));
      short = subst (All (λ (c : Bor Change). IsShortActor c.now.actor)) (sym more)
          (All-append (λ (c : Bor Change). IsShortActor c.now.actor) (take i cs) (x ∷ []) c.loop-i.invariant.short
          (All-from_recursion (λ (c : Bor Change). IsShortActor c.now.actor) (x ∷ []) (short, tt)));
    }
