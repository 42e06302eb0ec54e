-- Laws of flatten.
use mathlib.Core.Path.{◌≡◌, refl, sym, ap, ◌∙◌}
use mathlib.Core.List.{List, [], ◌∷◌, ◌++◌, map, flatten, append_assoc, map-append}

pub map_flatten : {A B : Type 0} (f : A → B) (ls : List (List A)) → map f (flatten ls) ≡ flatten (map (map f) ls)
unfolding flatten
map_flatten f [] = refl
map_flatten {B = B} f (l ∷ ls) = map-append f l (flatten ls) ∙ ap (λ (r : List B). map f l ++ r) (map_flatten f ls)

pub flatten_append : {A : Type 0} (a b : List (List A)) → flatten (a ++ b) ≡ flatten a ++ flatten b
unfolding flatten
flatten_append [] b = refl
flatten_append {A} (x ∷ a) b = ap (λ (r : List A). x ++ r) (flatten_append a b) ∙ sym (append_assoc x (flatten a) (flatten b))
