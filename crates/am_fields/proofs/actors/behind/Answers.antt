use Rattle.std.proofs.Common.{◌≡◌, Bor, ℕ, List, [], ◌∷◌, Option, Some, None, drop, sym, ap, ◌∙◌}
use Rattle.std.specs.Prelude.{slice_get, MatchOption, IfNone, IfSome}
use Rattle.am_fields.proofs.Lists.{first_behind}
use Rattle.am_fields.proofs.actors.behind.Goals as goal

told : (r : Option (Bor (List ℕ))) (left new xs : List (List ℕ)) (n : ℕ) → left ≡ drop n xs → IfNone r ((left ≡ []) × (new ≡ [])) → IfSome r (λ (a : Bor (List ℕ)). left ≡ a.now ∷ new)
    → MatchOption r (slice_get xs n ≡ None) (λ (a : Bor (List ℕ)). drop n xs ≡ a.now ∷ new)
told None left new xs n e none some = first_behind xs n (sym e ∙ none.0)
told (Some a) left new xs n e none some = sym e ∙ some

pub returns : goal.returns
returns c =
    told c.next-actor.result c.skip.new.self c.next-actor.new.self c.args.actors.now c.args.count (c.skip.ensures ∙ ap (drop c.args.count) c.again-rest.ensures) c.next-actor.ensures.end c.next-actor.ensures.next
