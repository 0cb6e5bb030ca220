pub mod State
pub mod Effect
pub mod EffectLaws
