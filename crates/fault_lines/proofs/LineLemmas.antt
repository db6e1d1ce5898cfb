-- What is written for a member at fault is its line.
use Rattle.std.proofs.Common.{◌≡◌, ℕ, List, [], ◌∷◌, ◌++◌, Option, Some, codes, ap, ◌∙◌}
use Rattle.std.specs.Fmt.{decimal}
use Rattle.serde_json.specs.Data.{Data}
use Rattle.serde_json.specs.Find.{get}
use Rattle.fault_lines.specs.Lines.{attribute_and_value, string_text, value_member}

-- the text of the attribute of this name, where the value found is shown as that
pub attribute_step : (name text value : List ℕ) (o : Option (List ℕ)) (v : Option Data) (tree : Data) → Some name ≡ o → text ≡ string_text name → value ≡ value_member v → v ≡ get name tree
    → codes ",\"attribute\":" ++ (text ++ value) ≡ attribute_and_value o tree
attribute_step name text value o v tree is_o is_text is_value is_v =
    ap (λ t. codes ",\"attribute\":" ++ (t ++ value)) is_text
    ∙ ap (λ x. codes ",\"attribute\":" ++ (string_text name ++ x)) (is_value ∙ ap value_member is_v)
    ∙ ap (λ p. attribute_and_value p tree) is_o

-- a line of these parts
abbrev pub line_of : List ℕ → ℕ → List ℕ → List ℕ → List ℕ → List ℕ → List ℕ
line_of file i id name at hint =
    codes "{\"file\":" ++ (file ++ (codes ",\"index\":" ++ (decimal i ++ (id ++ (codes ",\"fault\":\"" ++ (name ++ (codes "\"" ++ (at ++ (codes ",\"hint\":\"" ++ (hint ++ (codes "\"}" ++ 10 ∷ [])))))))))))

-- equal parts have equal lines
pub line_step : (file : List ℕ) (i : ℕ) (id jd name mame at bt hint iint : List ℕ) → id ≡ jd → name ≡ mame → at ≡ bt → hint ≡ iint → line_of file i id name at hint ≡ line_of file i jd mame bt iint
line_step file i id jd name mame at bt hint iint is_id is_name is_at is_hint =
    ap (λ x. line_of file i x name at hint) is_id
    ∙ ap (λ x. line_of file i jd x at hint) is_name
    ∙ ap (λ x. line_of file i jd mame x hint) is_at
    ∙ ap (λ x. line_of file i jd mame bt x) is_hint
