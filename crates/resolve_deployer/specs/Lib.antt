pub mod Deployed
