use Rattle.std.proofs.Common.{ℕ, [], ◌∷◌, ◌++◌, get_or, map, take, sym, ap, ◌∙◌}
use Rattle.std.proofs.lemmas.List.{map-append, take_more}
use Rattle.am_types.specs.declared.Hash.{Hash}
use Rattle.am_merge.specs.Places.{place_in}
use Rattle.am_merge.proofs.lookup.Places.each.Goals as goal

pub loop-hash-preserved : goal.loop-hash-preserved
loop-hash-preserved c =
    let hs = c.args.hashes.now in
    let i = c.loop-hash.hash-index in
    let d : Hash = record { 0 = [] } in
    let f : Hash → ℕ = λ h. place_in c.args.self.now h in
    c.in_ok-push.ensures.ok
    ∙ (λ t. c.loop-hash.invariant t ++ c.place.ensures t ∷ [])
    ∙ sym (map-append f (take i hs) (get_or hs i d ∷ []))
    ∙ ap (map f) (sym (take_more hs i d c.loop-hash-test.true))
