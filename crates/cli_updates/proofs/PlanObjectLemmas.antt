-- What becomes of an update, as an object of JSON, is what its pieces come to.
use Rattle.std.proofs.Common.{◌≡◌, ◌∙◌, ℕ, ◌-◌, List, [], ◌∷◌, ◌++◌, length, take, map, sym, ap, append_assoc, append-nil, length-append, arith, codes, decimal}
use Rattle.std.proofs.Math.Seq.{take-append_seam}
use Rattle.std.specs.List.{flat_map}
use Rattle.office_model.specs.declared.reply.UpdateReply.TheVariants.{NoError}
use Rattle.wire_json.specs.Json.{listed}
use Rattle.wire_json.specs.Replies.{lines_value, update_body}
use Rattle.cli_core.specs.declared.job.PlanObject.{PlanObject}
use Rattle.cli_core.specs.declared.job.PlanObject.TheVariants.{Reply, Answers, Explained}
use Rattle.cli_updates.specs.PlanObjects.{OutcomeOf, refused, made, outcome_object, outcome_text, items_piece, piece_of, added_by, removed_by}

-- ---- values with commas between them

module _ {A : Type 0} (f : A → List ℕ) where
  -- with a comma after each they are the list, and a comma
  commas : (x : A) (xs : List A) → flat_map (λ y. f y ++ 44 ∷ []) (x ∷ xs) ≡ listed (map f (x ∷ xs)) ++ 44 ∷ []
  commas x [] = append-nil (f x ++ 44 ∷ [])
  commas x (y ∷ ys) =
      ap (λ (l : List ℕ). (f x ++ 44 ∷ []) ++ l) (commas y ys)
      ∙ append_assoc (f x) (44 ∷ []) (listed (map f (y ∷ ys)) ++ 44 ∷ []) ∙ sym (append_assoc (f x) (44 ∷ listed (map f (y ∷ ys))) (44 ∷ []))

  front_of : (l : List ℕ) → take (length (l ++ 44 ∷ []) - 1) (l ++ 44 ∷ []) ≡ l
  front_of l =
      let n : length (l ++ 44 ∷ []) - 1 ≡ length l = omega (arith, length-append l (44 ∷ [])) in
      ap (λ (k : ℕ). take k (l ++ 44 ∷ [])) n ∙ take-append_seam l (44 ∷ [])

  -- and without the last comma they are the list
  pub without_last : (xs : List A) (text : List ℕ) → text ≡ flat_map (λ y. f y ++ 44 ∷ []) xs → take (length text - 1) text ≡ listed (map f xs)
  without_last [] text e = ap (λ (l : List ℕ). take (length l - 1) l) e
  without_last (x ∷ xs) text e = ap (λ (l : List ℕ). take (length l - 1) l) (e ∙ commas x xs) ∙ front_of (listed (map f (x ∷ xs)))

joined_items : (key list end : List ℕ) → (key ++ list) ++ end ≡ key ++ (list ++ end)
joined_items key list end = append_assoc key list end

bracket : (key list : List ℕ) → key ++ (91 ∷ list ++ 93 ∷ 44 ∷ []) ≡ key ++ ((91 ∷ list ++ 93 ∷ []) ++ 44 ∷ [])
bracket key list = ap (λ (l : List ℕ). key ++ 91 ∷ l) (sym (append_assoc list (93 ∷ []) (44 ∷ [])))

pub items_made : (list first second third : List ℕ) → first ≡ codes "\"items\":[" → second ≡ first ++ list → third ≡ second ++ codes "],"
    → third ≡ items_piece (91 ∷ list ++ 93 ∷ [])
items_made list first second third p q r =
    r ∙ ap (λ (l : List ℕ). l ++ codes "],") (q ∙ ap (λ (l : List ℕ). l ++ list) p) ∙ append_assoc (codes "\"items\":[") list (codes "],") ∙ bracket (codes "\"items\":") list

-- ---- the object

join_reply : (brace key body end line : List ℕ) → ((brace ++ (key ++ body)) ++ end) ++ line ≡ brace ++ ((key ++ body) ++ (end ++ line))
join_reply brace key body end line = simp append_assoc

join_items : (brace items value comma key body end line : List ℕ)
    → (((brace ++ (items ++ value)) ++ (comma ++ (key ++ body))) ++ end) ++ line ≡ brace ++ ((items ++ (value ++ comma)) ++ ((key ++ body) ++ (end ++ line)))
join_items brace items value comma key body end line = simp append_assoc

join_made : (key added comma gone removed again reply body serial digits end line : List ℕ)
    → ((key ++ (added ++ (comma ++ (gone ++ (removed ++ (again ++ (reply ++ (body ++ (serial ++ digits))))))))) ++ end) ++ line
    ≡ (key ++ (added ++ (comma ++ ([] ++ (gone ++ (removed ++ again)))))) ++ ((reply ++ body) ++ (serial ++ (digits ++ (end ++ line))))
join_made key added comma gone removed again reply body serial digits end line = simp append_assoc

join_explained : (key added comma items value then gone removed again reply body serial digits end line : List ℕ)
    → ((key ++ (added ++ (comma ++ (items ++ (value ++ (then ++ (gone ++ (removed ++ (again ++ (reply ++ (body ++ (serial ++ digits)))))))))))) ++ end) ++ line
    ≡ (key ++ (added ++ (comma ++ ((items ++ (value ++ then)) ++ (gone ++ (removed ++ again)))))) ++ ((reply ++ body) ++ (serial ++ (digits ++ (end ++ line))))
join_explained key added comma items value then gone removed again reply body serial digits end line = simp append_assoc

pub object_is : (form : PlanObject) (value : List ℕ) (o : OutcomeOf) → outcome_object form value o ++ 10 ∷ [] ≡ outcome_text (piece_of form value o) o
object_is Answers value (refused reply) = join_reply (codes "{") (codes "\"reply\":") (update_body reply) (codes "}") (10 ∷ [])
object_is Answers value (made change serial) =
    join_explained (codes "{\"added\":") (lines_value (added_by change)) (codes ",") (codes "\"answers\":") value (codes ",") (codes "\"removed\":")
    (lines_value (removed_by change)) (codes ",") (codes "\"reply\":") (update_body NoError) (codes ",\"serial\":") (decimal serial) (codes "}") (10 ∷ [])
object_is Reply items (refused reply) = join_reply (codes "{") (codes "\"reply\":") (update_body reply) (codes "}") (10 ∷ [])
object_is Explained items (refused reply) =
    join_items (codes "{") (codes "\"items\":") items (codes ",") (codes "\"reply\":") (update_body reply) (codes "}") (10 ∷ [])
object_is Reply items (made change serial) =
    join_made (codes "{\"added\":") (lines_value (added_by change)) (codes ",") (codes "\"removed\":") (lines_value (removed_by change)) (codes ",")
    (codes "\"reply\":") (update_body NoError) (codes ",\"serial\":") (decimal serial) (codes "}") (10 ∷ [])
object_is Explained items (made change serial) =
    join_explained (codes "{\"added\":") (lines_value (added_by change)) (codes ",") (codes "\"items\":") items (codes ",") (codes "\"removed\":")
    (lines_value (removed_by change)) (codes ",") (codes "\"reply\":") (update_body NoError) (codes ",\"serial\":") (decimal serial) (codes "}") (10 ∷ [])

pub object_made : (form : PlanObject) (value : List ℕ) (o : OutcomeOf) (piece text : List ℕ) → piece ≡ piece_of form value o → text ≡ outcome_text piece o
    → text ≡ outcome_object form value o ++ 10 ∷ []
object_made form value o piece text p r = r ∙ (λ i. outcome_text (p i) o) ∙ sym (object_is form value o)

-- ---- pieces that are appended

joined_change : (old key added comma items gone removed end : List ℕ)
    → ((((old ++ (key ++ added)) ++ comma) ++ items) ++ (gone ++ removed)) ++ end ≡ old ++ (key ++ (added ++ (comma ++ (items ++ (gone ++ (removed ++ end))))))
joined_change old key added comma items gone removed end = simp append_assoc

pub change_appended : (key added comma items gone removed end old a b c d e : List ℕ) → a ≡ old ++ (key ++ added) → b ≡ a ++ comma → c ≡ b ++ items → d ≡ c ++ (gone ++ removed) → e ≡ d ++ end
    → e ≡ old ++ (key ++ (added ++ (comma ++ (items ++ (gone ++ (removed ++ end))))))
change_appended key added comma items gone removed end old a b c d e p q r s t =
    t ∙ ap (λ (l : List ℕ). l ++ end) (s ∙ ap (λ (l : List ℕ). l ++ (gone ++ removed)) (r ∙ ap (λ (l : List ℕ). l ++ items) (q ∙ ap (λ (l : List ℕ). l ++ comma) p)))
    ∙ joined_change old key added comma items gone removed end

joined_made : (old change reply key serial end : List ℕ) → (((old ++ change) ++ reply) ++ (key ++ serial)) ++ end ≡ old ++ (change ++ (reply ++ (key ++ (serial ++ end))))
joined_made old change reply key serial end = simp append_assoc

pub made_appended : (change reply key serial end old a b c d : List ℕ) → a ≡ old ++ change → b ≡ a ++ reply → c ≡ b ++ (key ++ serial) → d ≡ c ++ end
    → d ≡ old ++ (change ++ (reply ++ (key ++ (serial ++ end))))
made_appended change reply key serial end old a b c d p q r s =
    s ∙ ap (λ (l : List ℕ). l ++ end) (r ∙ ap (λ (l : List ℕ). l ++ (key ++ serial)) (q ∙ ap (λ (l : List ℕ). l ++ reply) p)) ∙ joined_made old change reply key serial end
