use Rattle.std.proofs.Common.{◌≡◌, ◌-◌, Bor, ℕ, List, ◌∷◌, [], map, refl, sym, ap, subst, ◌∙◌, arith}
use Rattle.std.proofs.lemmas.List.{map-append}
use Rattle.am_fields.specs.Actors.{IsListed}
use Rattle.am_opcols.specs.Noted.{Notes}
use Rattle.am_opcols.proofs.NotedLaws.{notes_again, notes_one, at_listed}
use Rattle.am_opcols.proofs.others.note.Goals as goal

pub returns-then-is_same-2 : goal.returns-then-is_same-2
returns-then-is_same-2 c =
    let items = c.args.noted.now.items in
    let same : c.args.actor.now ≡ c.index.result.now.now = c.if-is_same-2.ensures.0 refl in
    let there = at_listed items (c.len-count.result - 1) c.index.result.now (omega (arith, c.len-count.ensures, c.if-count-gt0.true)) in
    notes_again c.args.author.now c.args.actor.now (map (λ (a : Bor (List ℕ)). a.now) items)
    (subst (IsListed (map (λ (a : Bor (List ℕ)). a.now) items)) (ap (λ (a : Bor (List ℕ)). a.now) (sym c.index.ensures) ∙ sym same) there)

pub returns : goal.returns
returns c =
    let items = c.args.noted.now.items in
    subst (Notes c.args.author.now (c.args.actor.now ∷ []) (map (λ (a : Bor (List ℕ)). a.now) items))
    (sym (ap (map (λ (a : Bor (List ℕ)). a.now)) c.in_ok-push.ensures.items ∙ map-append (λ (a : Bor (List ℕ)). a.now) items (c.args.actor ∷ [])))
    (notes_one c.args.author.now c.args.actor.now (map (λ (a : Bor (List ℕ)). a.now) items)
    (λ e. absurd (let yes = c.if-is_same.ensures.1 e in let no = c.if-is_same.false in cc)))
