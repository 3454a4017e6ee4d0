pub mod FreshZone
