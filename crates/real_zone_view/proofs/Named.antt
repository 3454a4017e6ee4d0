use Rattle.real_zone_view.proofs.Cited.{◌≡◌, ℕ, List, ◌++◌, Option, ap, ◌∙◌, resource_of, blocks_passed, Block, Damage, Form, Resource}
use Rattle.real_zone_view.proofs.Cited.{picture, zone_picture, blocks_text, zone_text, Style}

-- The resources of handles.

-- the text of a zone, by the resources that were found in it
pub text_of_zone : (style : Style) (form : Form) (zone : ℕ) (bytes old new : List ℕ) (named : ℕ → Option Resource)
    (blocks : List Block) → ((handle : ℕ) → named handle ≡ resource_of form bytes handle) → blocks ≡ blocks_passed form zone bytes
    → new ≡ old ++ blocks_text style named blocks → new ≡ old ++ zone_text style form zone bytes
text_of_zone style form zone bytes old new named blocks same all is =
    is ∙ ap (λ b. old ++ blocks_text style named b) all
    ∙ ap (λ f. old ++ blocks_text style f (blocks_passed form zone bytes)) (λ i handle. same handle i)

-- the picture of a zone, by the resources that were found in it
pub picture_of_zone : (form : Form) (zone size : ℕ) (bytes old new : List ℕ) (named : ℕ → Option Resource) (blocks : List Block)
    (damages : List Damage) → ((handle : ℕ) → named handle ≡ resource_of form bytes handle) → blocks ≡ blocks_passed form zone bytes
    → new ≡ old ++ picture form zone size named blocks damages → new ≡ old ++ zone_picture form zone size bytes damages
picture_of_zone form zone size bytes old new named blocks damages same all is =
    is ∙ ap (λ b. old ++ picture form zone size named b damages) all
    ∙ ap (λ f. old ++ picture form zone size f (blocks_passed form zone bytes) damages) (λ i handle. same handle i)
